-- The numbers, rows and totals of moments.
use Rattle.std.proofs.Common.{◌≡◌, ◌≢◌, ℕ, zero, suc, ◌+◌, ◌*◌, ◌<◌, ◌≤◌, ◌&&◌, Bool, true, false, cond, List, [], ◌∷◌, ◌++◌, eqb}
use Rattle.std.proofs.Common.{eq-eqb, ne_eqb, ltb, ltb-true, lt-ltb, le-ltb, refl, ap, ◌∙◌, arith}
use Rattle.std.proofs.lemmas.Bool.{and_right}
use mathlib.Core.Logic.{dite}
use native.Mathlib.Decide.{ℕ_discrete}
use Rattle.ledger_core.specs.declared.op.Op.{Op}
use Rattle.snapshot_core.specs.History.{Published, number_at, row_at, total_at}
use Rattle.snapshot_core.proofs.Lending.{Below}

-- an event before j is before all that are not before j
later : (a j j' : ℕ) → j ≤ j' → ltb a j ≡ true → ltb a j' ≡ true
later a j j' le e = let h = ltb-true a j e in lt-ltb a j' (omega arith)

cond_le : (x y b : Bool) (v : ℕ) → (x ≡ true → y ≡ true) → cond (x && b) v 0 ≤ cond (y && b) v 0
cond_le true true b v h = omega arith
cond_le true false b v h = absurd (let e = h refl in cc)
cond_le false y b v h = omega arith

pub number_rises : (ps : List Published) (j j' i : ℕ) → j ≤ j' → number_at ps j i ≤ number_at ps j' i
number_rises [] j j' i le = omega arith
number_rises (p ∷ ps) j j' i le = let a = number_rises ps j j' i le in
    let b = cond_le (ltb p.at j) (ltb p.at j') (eqb p.worker i) 1 (later p.at j j' le) in
    let x : ℕ = cond (ltb p.at j && eqb p.worker i) 1 0 in let y : ℕ = cond (ltb p.at j' && eqb p.worker i) 1 0 in
    let goal : x + number_at ps j i ≤ y + number_at ps j' i = omega arith in goal

-- nothing was published before the first event
pub number_first : (ps : List Published) (i : ℕ) → number_at ps 0 i ≡ 0
number_first [] i = refl
number_first (p ∷ ps) i = ap (λ (z : Bool × ℕ). cond (z.0 && eqb p.worker i) 1 0 + z.1)
    (λ d. (le-ltb p.at 0 (omega arith) d, number_first ps i d))

row_step : (x y w : Bool) (r nt nt' rt rt' : ℕ) → (x ≡ true → y ≡ true) → nt ≤ nt' → (nt ≡ nt' → rt ≡ rt')
    → cond (x && w) 1 0 + nt ≡ cond (y && w) 1 0 + nt' → cond (x && w) r 0 + rt ≡ cond (y && w) r 0 + rt'
row_step true true true r nt nt' rt rt' h le same e = let t = same (omega arith) in omega arith
row_step true true false r nt nt' rt rt' h le same e = let t = same (omega arith) in omega arith
row_step true false w r nt nt' rt rt' h le same e = absurd (let e = h refl in cc)
row_step false true true r nt nt' rt rt' h le same e = absurd (omega arith)
row_step false true false r nt nt' rt rt' h le same e = let t = same (omega arith) in omega arith
row_step false false w r nt nt' rt rt' h le same e = let t = same (omega arith) in omega arith

-- one more publish, at an event that is not before j
and_false : (a j : ℕ) (b : Bool) (v : ℕ) → j ≤ a → cond (ltb a j && b) v 0 + 0 ≡ 0
and_false a j b v le = ap (λ (t : Bool). cond (t && b) v 0 + 0) (le-ltb a j le)

pub number_grows : (ps : List Published) (p : Published) (j i : ℕ) → j ≤ p.at → number_at (ps ++ p ∷ []) j i ≡ number_at ps j i
number_grows [] p j i le = and_false p.at j (eqb p.worker i) 1 le
number_grows (x ∷ ps) p j i le = ap (λ (t : ℕ). cond (ltb x.at j && eqb x.worker i) 1 0 + t) (number_grows ps p j i le)

-- sums over the places below p
abbrev pub sum_to : ℕ → (ℕ → ℕ) → ℕ
sum_to zero f = 0
sum_to (suc p) f = sum_to p f + f p

pub sum_ap : (p : ℕ) (f g : ℕ → ℕ) → ((q : ℕ) → q < p → f q ≡ g q) → sum_to p f ≡ sum_to p g
sum_ap zero f g e = refl
sum_ap (suc p) f g e = let a = sum_ap p f g (λ q h. e q (omega arith)) in let b = e p (omega arith) in omega arith

sum_plus : (p : ℕ) (f g : ℕ → ℕ) → sum_to p (λ q. f q + g q) ≡ sum_to p f + sum_to p g
sum_plus zero f g = refl
sum_plus (suc p) f g = let a = sum_plus p f g in omega arith

and_none : (t e : Bool) (v : ℕ) → e ≡ false → cond (t && e) v 0 ≡ 0
and_none t e v h = ap (λ (b : Bool). cond b v 0) (and_right t e h)

and_one : (t e : Bool) (v : ℕ) → e ≡ true → cond (t && e) v 0 ≡ cond t v 0
and_one true e v h = ap (λ (b : Bool). cond b v 0) h
and_one false e v h = refl

sum_none : (p w : ℕ) (t : Bool) (v : ℕ) → p ≤ w → sum_to p (λ q. cond (t && eqb w q) v 0) ≡ 0
sum_none zero w t v h = refl
sum_none (suc p) w t v h = let a = sum_none p w t v (omega arith) in let ne : w ≢ p = omega arith in
    let b = and_none t (eqb w p) v (ne_eqb w p ne) in omega arith

sum_one : (p w : ℕ) (t : Bool) (v : ℕ) → w < p → sum_to p (λ q. cond (t && eqb w q) v 0) ≡ cond t v 0
sum_one zero w t v h = absurd (omega arith)
sum_one (suc p) w t v h = dite (ℕ_discrete w p)
    (λ same. let a = sum_none p w t v (let le : p ≤ w = omega arith in le) in let b = and_one t (eqb w p) v (eq-eqb w p same) in
    let c : ℕ = cond t v 0 in let g : sum_to p (λ q. cond (t && eqb w q) v 0) + cond (t && eqb w p) v 0 ≡ c = omega arith in
    g)
    (λ other. let a = sum_one p w t v (omega arith) in let b = and_none t (eqb w p) v (ne_eqb w p other) in
    let c : ℕ = cond t v 0 in let g : sum_to p (λ q. cond (t && eqb w q) v 0) + cond (t && eqb w p) v 0 ≡ c = omega arith in
    g)

sum_zero : (p : ℕ) → sum_to p (λ q. 0) ≡ 0
sum_zero zero = refl
sum_zero (suc p) = let a = sum_zero p in omega arith

pub sum_le : (p : ℕ) (f : ℕ → ℕ) → ((q : ℕ) → q < p → f q ≤ 281474976710655) → sum_to p f ≤ p * 281474976710655
sum_le zero f h = omega arith
sum_le (suc p) f h = let a = sum_le p f (λ q l. h q (omega arith)) in let b = h p (omega arith) in omega arith

-- every publish is of a worker below n
abbrev pub Inside : ℕ → List Published → Type 0
Inside n ps = Below (λ (p : Published). p.worker) n ps

module _ (adds : List Op → ℕ → ℕ) where
  pub row_rises : (ps : List Published) (j j' i x : ℕ) → j ≤ j' → row_at adds ps j i x ≤ row_at adds ps j' i x
  row_rises [] j j' i x le = omega arith
  row_rises (p ∷ ps) j j' i x le = let a = row_rises ps j j' i x le in
      let b = cond_le (ltb p.at j) (ltb p.at j') (eqb p.worker i) (adds p.ops x) (later p.at j j' le) in
      let y : ℕ = cond (ltb p.at j && eqb p.worker i) (adds p.ops x) 0 in
      let z : ℕ = cond (ltb p.at j' && eqb p.worker i) (adds p.ops x) 0 in
      let goal : y + row_at adds ps j i x ≤ z + row_at adds ps j' i x = omega arith in goal

  pub row_first : (ps : List Published) (i x : ℕ) → row_at adds ps 0 i x ≡ 0
  row_first [] i x = refl
  row_first (p ∷ ps) i x = ap (λ (z : Bool × ℕ). cond (z.0 && eqb p.worker i) (adds p.ops x) 0 + z.1)
      (λ d. (le-ltb p.at 0 (omega arith) d, row_first ps i x d))

  -- where a worker's number did not move, nor did its row
  pub row_stays : (ps : List Published) (j j' i x : ℕ) → j ≤ j' → number_at ps j i ≡ number_at ps j' i
      → row_at adds ps j i x ≡ row_at adds ps j' i x
  row_stays [] j j' i x le e = refl
  row_stays (p ∷ ps) j j' i x le e = row_step (ltb p.at j) (ltb p.at j') (eqb p.worker i) (adds p.ops x) _ _ _ _
      (later p.at j j' le) (number_rises ps j j' i le) (row_stays ps j j' i x le) e

  pub row_grows : (ps : List Published) (p : Published) (j i x : ℕ) → j ≤ p.at
      → row_at adds (ps ++ p ∷ []) j i x ≡ row_at adds ps j i x
  row_grows [] p j i x le = and_false p.at j (eqb p.worker i) (adds p.ops x) le
  row_grows (y ∷ ps) p j i x le = ap (λ (t : ℕ). cond (ltb y.at j && eqb y.worker i) (adds y.ops x) 0 + t)
      (row_grows ps p j i x le)

  pub total_grows : (ps : List Published) (p : Published) (j x : ℕ) → j ≤ p.at
      → total_at adds (ps ++ p ∷ []) j x ≡ total_at adds ps j x
  total_grows [] p j x le = ap (λ (b : Bool). cond b (adds p.ops x) 0 + 0) (le-ltb p.at j le)
  total_grows (y ∷ ps) p j x le = ap (λ (t : ℕ). cond (ltb y.at j) (adds y.ops x) 0 + t) (total_grows ps p j x le)

  -- all rows together are the totals
  pub rows_total : (n : ℕ) (ps : List Published) (j x : ℕ) → Inside n ps
      → sum_to n (λ q. row_at adds ps j q x) ≡ total_at adds ps j x
  rows_total n [] j x inside = sum_zero n
  rows_total n (p ∷ ps) j x inside = sum_plus n (λ q. cond (ltb p.at j && eqb p.worker q) (adds p.ops x) 0)
      (λ q. row_at adds ps j q x)
      ∙ ap (λ (z : ℕ × ℕ). z.0 + z.1) (λ c. (
        sum_one n p.worker (ltb p.at j) (adds p.ops x) (inside 0 p refl) c,
        rows_total n ps j x (λ q. inside (suc q)) c,
      ))
