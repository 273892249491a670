-- What the arrays of a scan say of the reads of its collects.
use Rattle.std.proofs.Common.{◌≡◌, ◌≢◌, inl, inr, ◌&&◌, ◌||◌, ℕ, zero, suc, ◌+◌, ◌-◌, ◌<◌, ◌≤◌, Bool, true, false, not, cond}
use Rattle.std.proofs.Common.{◌==◌, List, [], ◌∷◌, ◌++◌, length, map, get_or, eqb, leb, sym, refl, ap, ◌∙◌, arith, Some, None}
use Rattle.std.proofs.Common.{get_or-set_same, get_or-set_other, length-append, ◌*◌}
use Rattle.std.proofs.lemmas.List.{length-map, map_push}
use Rattle.std.proofs.lemmas.Bool.{and_right}
use Rattle.std.proofs.Math.Nat.{eq-or-lt_of_le}
use Rattle.std.proofs.Math.ListN.{set}
use Rattle.std.proofs.Math.Bool.{and-true}
use Rattle.std.specs.List.{list_all}
use mathlib.Core.Option.{some}
use lib.ListN.{get_elem?}
use Rattle.snapshot_core.specs.Scan.{failed_at, least_failed_of, is_to_ask, next_asked_of}
use Rattle.snapshot_core.specs.Tries.{Read, Try, place_of, number_met, from_on, is_whole, same_numbers, is_clean, to_ask}
use Rattle.snapshot_core.specs.Tries.{TwoCollects}

-- the words of an array at n places
abbrev pub words : ℕ → List ℕ → List ℕ
words n xs = map (λ q. get_or xs q 0) (from_on 0 n)

-- each read's part stands in the array at the read's place
abbrev pub Stands : {A : Type 0} → (Read → A) → A → List A → List Read → Type 0
Stands f d xs rs = map f rs ≡ map (λ (r : Read). get_or xs r.place d) rs

from_more : (k m : ℕ) → from_on k m ++ (k + m) ∷ [] ≡ from_on k (suc m)
from_more k zero = let e : k + 0 ≡ k = omega arith in ap (λ (y : ℕ). y ∷ []) e
from_more k (suc m) = ap (λ (z : List ℕ). k ∷ z) (let e : k + suc m ≡ suc k + m = omega arith in
    ap (λ (y : ℕ). from_on (suc k) m ++ y ∷ []) e ∙ from_more (suc k) m)

pub length_from : (k m : ℕ) → length (from_on k m) ≡ m
length_from k zero = refl
length_from k (suc m) = let e = length_from (suc k) m in omega arith

pub from_at : (f : ℕ → ℕ) (k m q : ℕ) → q < m → get_or (map f (from_on k m)) q 0 ≡ f (k + q)
from_at f k zero q h = absurd (omega arith)
from_at f k (suc m) zero h = let e : k ≡ k + 0 = omega arith in ap f e
from_at f k (suc m) (suc q) h = from_at f (suc k) m q (omega arith) ∙ (let e : suc k + q ≡ k + suc q = omega arith in ap f e)

-- how many reads have these places
pub count_of : (rs : List Read) (k m : ℕ) → map place_of rs ≡ from_on k m → length rs ≡ m
count_of rs k m e = sym (length-map rs place_of) ∙ ap length e ∙ length_from k m

-- the length of a try's reads and what follows
pub length_parts : {A : Type 0} (a b c xs : List A) → length (a ++ b ++ c ++ xs) ≡ length a + length b + length c + length xs
length_parts a b c xs = let e = length-append (a ++ b ++ c) xs in let f = length-append (a ++ b) c in let g = length-append a b in
    omega (arith, e, f, g)

pub try_long : (n : ℕ) (t : Try) (xs : List Read) → TwoCollects n t
    → length (t.first ++ t.second ++ t.asks ++ xs) ≡ 2 * n + length t.asks + length xs
try_long n t xs two = let l = length_parts t.first t.second t.asks xs in let f = count_of t.first 0 n two.first in
    let s = count_of t.second 0 n two.second in omega (arith, l, f, s)

pub places_more : (rs : List Read) (r : Read) (m : ℕ) → map place_of rs ≡ from_on 0 m → r.place ≡ m
    → map place_of (rs ++ r ∷ []) ≡ from_on 0 (suc m)
places_more rs r m e at = map_push place_of rs r ∙ ap (λ (z : List ℕ). z ++ r.place ∷ []) e
    ∙ (let g : r.place ≡ 0 + m = omega arith in ap (λ (y : ℕ). from_on 0 m ++ y ∷ []) g) ∙ from_more 0 m

-- a write at a place that was not read
set_after : {A : Type 0} (d : A) (xs : List A) (p : ℕ) (x : A) (rs : List Read) (k m : ℕ) → map place_of rs ≡ from_on k m
    → k + m ≤ p → map (λ (r : Read). get_or xs r.place d) rs ≡ map (λ (r : Read). get_or (set xs p x) r.place d) rs
set_after d xs p x [] k m e le = refl
set_after d xs p x (r ∷ rs) k zero e le = absurd (cc)
set_after d xs p x (r ∷ rs) k (suc m) e le = let h : r.place ≡ k = cc in let t : map place_of rs ≡ from_on (suc k) m = cc in
    let ne : r.place ≢ p = omega arith in
    ap (λ (z : _ × List _). z.0 ∷ z.1)
    (λ i. (sym (get_or-set_other xs p r.place x d ne) i, set_after d xs p x rs (suc k) m t (omega arith) i))

-- one more read, and the write that goes with it
pub stands_more : {A : Type 0} (f : Read → A) (d : A) (xs : List A) (p : ℕ) (x : A) (rs : List Read) (r : Read)
    → map place_of rs ≡ from_on 0 p → r.place ≡ p → p < length xs → f r ≡ x → Stands f d xs rs
    → Stands f d (set xs p x) (rs ++ r ∷ [])
stands_more f d xs p x rs r e at lt is h = map_push f rs r
    ∙ ap (λ (z : List _ × _). z.0 ++ z.1 ∷ []) (λ i. (
      (h ∙ set_after d xs p x rs 0 p e (omega arith)) i,
      (is ∙ sym (ap (λ (q : ℕ). get_or (set xs p x) q d) at ∙ get_or-set_same xs p x d lt)) i,
    ))
    ∙ sym (map_push (λ (y : Read). get_or (set xs p x) y.place d) rs r)

map_places : {A : Type 0} (d : A) (xs : List A) (rs : List Read) → map (λ (r : Read). get_or xs r.place d) rs ≡ map
    (λ q. get_or xs q d) (map place_of rs)
map_places d xs [] = refl
map_places d xs (r ∷ rs) = ap (λ (z : List _). get_or xs r.place d ∷ z) (map_places d xs rs)

-- the parts of all reads are the array's
pub parts_are : {A : Type 0} (f : Read → A) (d : A) (xs : List A) (rs : List Read) (n : ℕ) → map place_of rs ≡ from_on 0 n
    → Stands f d xs rs → map f rs ≡ map (λ q. get_or xs q d) (from_on 0 n)
parts_are f d xs rs n e h = h ∙ map_places d xs rs ∙ ap (map (λ q. get_or xs q d)) e

-- whether all are true
abbrev all_true : List Bool → Bool
all_true bs = list_all (λ b. b) bs

whole_of : (rs : List Read) → is_whole rs ≡ all_true (map (λ (r : Read). not r.torn) rs)
whole_of [] = refl
whole_of (r ∷ rs) = ap (λ (b : Bool). not r.torn && b) (whole_of rs)

and_is : (a b : Bool) → (a && b) ≡ not (not a || not b)
and_is true true = refl
and_is true false = refl
and_is false true = refl
and_is false false = refl

abbrev clean_over : (o : List ℕ) (w : List Bool) (f : List ℕ) (k m : ℕ) → Bool
clean_over o w f k m = all_true (map (λ q. get_or w q false) (from_on k m)) && same_numbers
    (map (λ q. get_or o q 0) (from_on k m)) (map (λ q. get_or f q 0) (from_on k m))

clean_least : (o : List ℕ) (w : List Bool) (f : List ℕ) (k m : ℕ)
    → clean_over o w f k (suc m) ≡ not (failed_at o w f (least_failed_of o w f k m))
clean_least o w f k zero =
    let a = get_or w k false in let b = eqb (get_or o k 0) (get_or f k 0) in
    ap (λ (z : Bool × Bool). z.0 && z.1) (λ i. (and-true a i, and-true b i)) ∙ and_is a b
clean_least o w f k (suc m) = step (get_or w k false) (eqb (get_or o k 0) (get_or f k 0))
    (all_true (map (λ q. get_or w q false) (from_on (suc k) (suc m))))
    (same_numbers (map (λ q. get_or o q 0) (from_on (suc k) (suc m))) (map (λ q. get_or f q 0) (from_on (suc k) (suc m))))
    (least_failed_of o w f (suc k) m) refl (clean_least o w f (suc k) m)
  where
    step : (a b A B : Bool) (l : ℕ) → failed_at o w f k ≡ (not a || not b) → (A && B) ≡ not (failed_at o w f l)
        → ((a && A) && (b && B)) ≡ not (failed_at o w f (cond (failed_at o w f k) k l))
    step true true A B l e h = h ∙ ap (λ (t : Bool). not (failed_at o w f (cond t k l))) (sym e)
    step true false A B l e h = and_right A false refl ∙ sym (ap not (ap (λ (t : Bool). failed_at o w f (cond t k l)) e ∙ e))
    step false b A B l e h = sym (ap not (ap (λ (t : Bool). failed_at o w f (cond t k l)) e ∙ e))

-- a try is clean where the least place that failed is none
pub clean_is : (o : List ℕ) (w : List Bool) (f : List ℕ) (n : ℕ) (t : Try) → 1 ≤ n → map place_of t.first ≡ from_on 0 n
    → map place_of t.second ≡ from_on 0 n → Stands number_met 0 o t.first → Stands (λ (r : Read). not r.torn) false w t.first
    → Stands number_met 0 f t.second
    → is_clean t ≡ not (failed_at o w f (least_failed_of o w f 0 (n - 1)))
clean_is o w f n t one e1 e2 ho hw hf =
    ap (λ (z : Bool × (List ℕ × List ℕ)). z.0 && same_numbers z.1.0 z.1.1)
    (λ i. (
      (whole_of t.first ∙ ap all_true (parts_are (λ (r : Read). not r.torn) false w t.first n e1 hw)) i,
      (parts_are number_met 0 o t.first n e1 ho i, parts_are number_met 0 f t.second n e2 hf i),
    ))
    ∙ (let e : n ≡ suc (n - 1) = omega arith in ap (clean_over o w f 0) e) ∙ clean_least o w f 0 (n - 1)

pub least_within : (o : List ℕ) (w : List Bool) (f : List ℕ) (k m : ℕ) → least_failed_of o w f k m ≤ k + m
least_within o w f k zero = omega arith
least_within o w f k (suc m) = go (failed_at o w f k) (least_within o w f (suc k) m)
  where
    go : (t : Bool) → least_failed_of o w f (suc k) m ≤ suc k + m → cond t k (least_failed_of o w f (suc k) m) ≤ k + suc m
    go true h = omega arith
    go false h = omega arith

pub least_held : (o : List ℕ) (w : List Bool) (f : List ℕ) (k m j : ℕ) → k ≤ j → j < least_failed_of o w f k m
    → failed_at o w f j ≡ false
least_held o w f k zero j le lt = absurd (omega arith)
least_held o w f k (suc m) j le lt = go (failed_at o w f k) refl lt (least_held o w f (suc k) m j)
  where
    go : (t : Bool) → failed_at o w f k ≡ t → j < cond t k (least_failed_of o w f (suc k) m)
        → (suc k ≤ j → j < least_failed_of o w f (suc k) m → failed_at o w f j ≡ false) → failed_at o w f j ≡ false
    go true e lt later = absurd (omega arith)
    go false e lt later = elim (eq-or-lt_of_le le) [ inl same ↦ ap (failed_at o w f) (sym same) ∙ e | inr less ↦ later less lt ]

-- the read at a place of a collect
pub read_at : (rs : List Read) (k m q : ℕ) → map place_of rs ≡ from_on k m → q < m → (r : Read) × (get_elem? rs q ≡ some r)
    × (r.place ≡ k + q)
read_at [] k zero q e lt = absurd (omega arith)
read_at [] k (suc m) q e lt = absurd (cc)
read_at (r ∷ rs) k zero q e lt = absurd (omega arith)
read_at (r ∷ rs) k (suc m) zero e lt = let h : r.place ≡ k = cc in (r, refl, omega arith)
read_at (r ∷ rs) k (suc m) (suc q) e lt = let t : map place_of rs ≡ from_on (suc k) m = cc in
    let x = read_at rs (suc k) m q t (omega arith) in let at = x.2 in (x.0, x.1, omega arith)

pub part_at : {A : Type 0} (f g : Read → A) (rs : List Read) (q : ℕ) (r : Read) → map f rs ≡ map g rs → get_elem? rs q ≡ some r
    → f r ≡ g r
part_at f g [] q r e is = absurd (cc)
part_at f g (x ∷ rs) zero r e is = let h : f x ≡ g x = cc in let same : x ≡ r = cc in ap f (sym same) ∙ h ∙ ap g same
part_at f g (x ∷ rs) (suc q) r e is = part_at f g rs q r (cc) is

-- both reads of a place, and whether it failed
pub tests_at : (o : List ℕ) (w : List Bool) (f : List ℕ) (n k : ℕ) (t : Try) → k < n → map place_of t.first ≡ from_on 0 n
    → map place_of t.second ≡ from_on 0 n → Stands number_met 0 o t.first → Stands (λ (r : Read). not r.torn) false w t.first
    → Stands number_met 0 f t.second
    → (one two : Read) × (get_elem? t.first k ≡ some one) × (get_elem? t.second k ≡ some two) × (one.number ≡ get_or o k 0)
    × (two.number ≡ get_or f k 0) × ((not one.torn && one.number == two.number) ≡ not (failed_at o w f k))
tests_at o w f n k t lt e1 e2 ho hw hf =
    let a = read_at t.first 0 n k e1 lt in let b = read_at t.second 0 n k e2 lt in
    let pa : a.0.place ≡ k = a.2 ∙ (let e : 0 + k ≡ k = omega arith in e) in
    let pb : b.0.place ≡ k = b.2 ∙ (let e : 0 + k ≡ k = omega arith in e) in
    let x : a.0.number ≡ get_or o k 0 = part_at number_met (λ (r : Read). get_or o r.place 0) t.first k a.0 ho a.1
    ∙ ap (λ (q : ℕ). get_or o q 0) pa in
    let y : b.0.number ≡ get_or f k 0 = part_at number_met (λ (r : Read). get_or f r.place 0) t.second k b.0 hf b.1
    ∙ ap (λ (q : ℕ). get_or f q 0) pb in
    let z : not a.0.torn ≡ get_or w k false = part_at (λ (r : Read). not r.torn) (λ (r : Read). get_or w r.place false) t.first k
    a.0 hw a.1 ∙ ap (λ (q : ℕ). get_or w q false) pa in (
      a.0,
      b.0,
      a.1,
      b.1,
      x,
      y,
      ap (λ (v : Bool × (ℕ × ℕ)). v.0 && v.1.0 == v.1.1) (λ i. (z i, (x i, y i)))
          ∙ and_is (get_or w k false) (eqb (get_or o k 0) (get_or f k 0)),
    )

-- the places to ask, from k on
abbrev pub asked_over : List ℕ → List ℕ → ℕ → ℕ → List ℕ
asked_over base found k zero = []
asked_over base found k (suc m) = cond (is_to_ask base found k) (k ∷ asked_over base found (suc k) m)
    (asked_over base found (suc k) m)

pub asked_none : (base found : List ℕ) (k m : ℕ) → next_asked_of base found k m ≡ None → asked_over base found k m ≡ []
asked_none base found k zero e = refl
asked_none base found k (suc m) e = go (is_to_ask base found k) e (asked_none base found (suc k) m)
  where
    go : (t : Bool) → cond t (Some k) (next_asked_of base found (suc k) m) ≡ None
        → (next_asked_of base found (suc k) m ≡ None → asked_over base found (suc k) m ≡ [])
        → cond t (k ∷ asked_over base found (suc k) m) (asked_over base found (suc k) m) ≡ []
    go true e rec = absurd (cc)
    go false e rec = rec e

pub asked_some : (base found : List ℕ) (k m p : ℕ) → next_asked_of base found k m ≡ Some p
    → asked_over base found k m ≡ p ∷ asked_over base found (p + 1) (k + m - (p + 1))
asked_some base found k zero p e = absurd (cc)
asked_some base found k (suc m) p e = go (is_to_ask base found k) e (asked_some base found (suc k) m p)
  where
    go : (t : Bool) → cond t (Some k) (next_asked_of base found (suc k) m) ≡ Some p
        → (next_asked_of base found (suc k) m ≡ Some p → asked_over base found (suc k) m ≡ p ∷ asked_over base found (p + 1)
        (suc k + m - (p + 1)))
        → cond t (k ∷ asked_over base found (suc k) m) (asked_over base found (suc k) m) ≡ p ∷ asked_over base found (p + 1)
        (k + suc m - (p + 1))
    go true e rec = let same : k ≡ p = cc in ap (λ (y : ℕ). y ∷ asked_over base found (suc k) m) same
        ∙ ap (λ (z : ℕ × ℕ). p ∷ asked_over base found z.0 z.1) (λ i. (
          (let g : suc k ≡ p + 1 = omega arith in g) i,
          (let g : m ≡ k + suc m - (p + 1) = omega arith in g) i,
        ))
    go false e rec = rec e ∙ (let g : suc k + m - (p + 1) ≡ k + suc m - (p + 1) = omega arith in
        ap (λ (z : ℕ). p ∷ asked_over base found (p + 1) z) g)

-- those after the one that is asked are the later ones
pub asked_after : (base found : List ℕ) (k m : ℕ) (xs : List ℕ) (p : ℕ) (later : List ℕ)
    → asked_over base found k m ≡ xs ++ p ∷ later → later ≡ asked_over base found (p + 1) (k + m - (p + 1))
asked_after base found k zero [] p later e = absurd (cc)
asked_after base found k zero (x ∷ xs) p later e = absurd (cc)
asked_after base found k (suc m) xs p later e = go (is_to_ask base found k) xs e
    (λ ys h. asked_after base found (suc k) m ys p later h ∙ (let g : suc k + m - (p + 1) ≡ k + suc m - (p + 1) = omega arith in
    ap (asked_over base found (p + 1)) g))
  where
    go : (t : Bool) (xs : List ℕ) → cond t (k ∷ asked_over base found (suc k) m) (asked_over base found (suc k) m) ≡ xs ++ p
        ∷ later → ((ys : List ℕ) → asked_over base found (suc k) m ≡ ys ++ p ∷ later
        → later ≡ asked_over base found (p + 1) (k + suc m - (p + 1)))
        → later ≡ asked_over base found (p + 1) (k + suc m - (p + 1))
    go true [] e rec = let same : k ≡ p = cc in let tail : later ≡ asked_over base found (suc k) m = cc in
        tail ∙ ap (λ (z : ℕ × ℕ). asked_over base found z.0 z.1) (λ i. (
          (let g : suc k ≡ p + 1 = omega arith in g) i,
          (let g : m ≡ k + suc m - (p + 1) = omega arith in g) i,
        ))
    go true (x ∷ xs) e rec = rec xs (cc)
    go false xs e rec = rec xs e

pub asks_same : (n : ℕ) (base found : List ℕ) (k m : ℕ) (rs : List Read) → k + m ≤ n → map place_of rs ≡ from_on k m
    → Stands number_met 0 found rs → to_ask (words n base) rs ≡ asked_over base found k m
asks_same n base found k zero [] le p h = refl
asks_same n base found k zero (r ∷ rs) le p h = absurd (cc)
asks_same n base found k (suc m) [] le p h = absurd (cc)
asks_same n base found k (suc m) (r ∷ rs) le p h = let pl : r.place ≡ k = cc in
    let pt : map place_of rs ≡ from_on (suc k) m = cc in
    let one : r.number ≡ get_or found r.place 0 = cc in let rest : Stands number_met 0 found rs = cc in
    let b : get_or (words n base) r.place 0 ≡ get_or base k 0 = ap (λ (q : ℕ). get_or (words n base) q 0) pl
    ∙ from_at (λ q. get_or base q 0) 0 n k (omega arith) ∙ (let e : 0 + k ≡ k = omega arith in
    ap (λ (q : ℕ). get_or base q 0) e) in
    let f : r.number ≡ get_or found k 0 = one ∙ ap (λ (q : ℕ). get_or found q 0) pl in
    let t : leb (get_or (words n base) r.place 0 + 2) r.number ≡ is_to_ask base found k = ap (λ (z : ℕ × ℕ). leb (z.0 + 2) z.1)
    (λ i. (b i, f i)) in
    ap (λ (z : Bool × (ℕ × List ℕ)). cond z.0 (z.1.0 ∷ z.1.1) z.1.1)
    (λ i. (t i, (pl i, asks_same n base found (suc k) m rs (omega arith) pt rest i)))
