-- Two traces that are the same before an event have the same numbers, rows, views and turns there.
use Rattle.std.proofs.Common.{◌≡◌, ℕ, zero, suc, ◌+◌, ◌<◌, ◌≤◌, ◌&&◌, inl, inr, ⊎_elim, Bool, true, false, cond, List, [], ◌∷◌}
use Rattle.std.proofs.Common.{eqb, ltb, ltb-true, lt-ltb, le-ltb, sym, refl, ap, ◌∙◌, arith, Option, Some, None}
use Rattle.std.specs.Prelude.{slice_get}
use Rattle.std.proofs.lemmas.Option.{none-some, same_Some}
use Rattle.std.proofs.lemmas.Bool.{ltb-false}
use Rattle.std.proofs.Math.Nat.{zero-add}
use mathlib.Core.Option.{some, some-injective, some-ne-none}
use lib.ListN.{get_elem?}
use Rattle.ledger_core.specs.declared.op.Op.{Op}
use Rattle.ledger_core.specs.Ops.{sum_ops}
use Rattle.snapshot_core.specs.declared.event.Event.{Event}
use Rattle.snapshot_core.specs.declared.event.Event.TheVariants.{Begin, Step, Torn}
use Rattle.snapshot_core.specs.Tries.{View, Read}
use Rattle.snapshot_core.specs.History.{Published, number_at, row_at, total_at}
use Rattle.snapshot_core.specs.Turns.{Answered, MayBegin, BeginsAt, EndsAt, IsOpen}
use Rattle.snapshot_core.specs.Faithful.{last_publish, last_view, lent_since, lent_at, Meets}
use Rattle.snapshot_core.proofs.Accepted.{accepts_same}
use Rattle.snapshot_core.proofs.Lending.{Rising, at_publish, at_answer, rising_tail, weigh, number_is, row_is}

-- Lists whose elements stand at events, in their order.
module _ {A : Type 0} (at : A → ℕ) where
  -- what the first has before e is in the second
  abbrev pub Has : ℕ → List A → List A → Type 0
  Has e xs ys = (q : ℕ) (x : A) → get_elem? xs q ≡ some x → at x < e → (r : ℕ) × (get_elem? ys r ≡ some x)

  -- those before e
  abbrev pub upto : ℕ → List A → List A
  upto e [] = []
  upto e (x ∷ xs) = cond (ltb (at x) e) (x ∷ upto e xs) (upto e xs)

  -- not at the front, so further on
  has_past : (e : ℕ) (xs ys : List A) (y : A) → ((q : ℕ) (z : A) → get_elem? xs q ≡ some z → at z < e → y ≡ z → ⊥)
      → Has e xs (y ∷ ys) → Has e xs ys
  has_past e xs ys y not h q z ez lt = let t = h q z ez lt in go t.0 t.1
    where
      go : (r : ℕ) → get_elem? (y ∷ ys) r ≡ some z → (r : ℕ) × (get_elem? ys r ≡ some z)
      go zero is = absurd (not q z ez lt (some-injective y z is))
      go (suc r) is = (r, is)

  has_nothing : (e : ℕ) (ys : List A) → Has e [] ys
  has_nothing e ys q z ez lt = absurd (some-ne-none z (sym ez))

  -- the later ones of a list are not its first
  not_first : (x : A) (xs : List A) → Rising at (x ∷ xs) → (q : ℕ) (z : A) → get_elem? xs q ≡ some z → x ≡ z → ⊥
  not_first x xs rise q z ez same = let l = rise 0 (suc q) x z refl ez (omega arith) in let s : at x ≡ at z = ap at same in
      omega (arith, l, s)

  -- the first of two lists is one, where each list has it
  same_first : (x y : A) (xs ys : List A) → Rising at (x ∷ xs) → Rising at (y ∷ ys) → (r s : ℕ) → get_elem? (y ∷ ys) r ≡ some x
      → get_elem? (x ∷ xs) s ≡ some y → x ≡ y
  same_first x y xs ys rx ry zero s er es = sym (some-injective y x er)
  same_first x y xs ys rx ry (suc r) zero er es = some-injective x y es
  same_first x y xs ys rx ry (suc r) (suc s) er es = let a = ry 0 (suc r) y x refl er (omega arith) in
      let b = rx 0 (suc s) x y refl es (omega arith) in absurd (omega (arith, a, b))

  -- lists that have the same elements before e have the same list of them
  pub same_upto : (e : ℕ) (xs ys : List A) → Rising at xs → Rising at ys → Has e xs ys → Has e ys xs → upto e xs ≡ upto e ys
  same_upto e [] [] rx ry h k = refl
  same_upto e [] (y ∷ ys) rx ry h k =
      go (ltb (at y) e) refl (same_upto e [] ys rx (rising_tail at y ys ry) (has_nothing e ys) (λ q. k (suc q)))
    where
      go : (b : Bool) → ltb (at y) e ≡ b → [] ≡ upto e ys → [] ≡ cond b (y ∷ upto e ys) (upto e ys)
      go true is rec = absurd (let t = k 0 y refl (ltb-true (at y) e is) in some-ne-none y (sym t.1))
      go false is rec = rec
  same_upto e (x ∷ xs) [] rx ry h k =
      go (ltb (at x) e) refl (same_upto e xs [] (rising_tail at x xs rx) ry (λ q. h (suc q)) (has_nothing e xs))
    where
      go : (b : Bool) → ltb (at x) e ≡ b → upto e xs ≡ [] → cond b (x ∷ upto e xs) (upto e xs) ≡ []
      go true is rec = absurd (let t = h 0 x refl (ltb-true (at x) e is) in some-ne-none x (sym t.1))
      go false is rec = rec
  same_upto e (x ∷ xs) (y ∷ ys) rx ry h k = go (ltb (at x) e) (ltb (at y) e) refl refl
      (same_upto e xs ys (rising_tail at x xs rx) (rising_tail at y ys ry))
    where
      -- the one before e is in the other list, whose first is not before e
      alone : (x y : A) (ys : List A) → Rising at (y ∷ ys) → ltb (at x) e ≡ true → ltb (at y) e ≡ false → (r : ℕ)
          → get_elem? (y ∷ ys) r ≡ some x → ⊥
      alone x y ys ry ix iy zero is = let a = ltb-true (at x) e ix in let b = ltb-false (at y) e iy in
          let s : at y ≡ at x = ap at (some-injective y x is) in omega (arith, a, b, s)
      alone x y ys ry ix iy (suc r) is = let a = ltb-true (at x) e ix in let b = ltb-false (at y) e iy in
          let l = ry 0 (suc r) y x refl is (omega arith) in omega (arith, a, b, l)

      go : (b c : Bool) → ltb (at x) e ≡ b → ltb (at y) e ≡ c → (Has e xs ys → Has e ys xs → upto e xs ≡ upto e ys)
          → cond b (x ∷ upto e xs) (upto e xs) ≡ cond c (y ∷ upto e ys) (upto e ys)
      go true true ix iy rec =
          let t = h 0 x refl (ltb-true (at x) e ix) in let u = k 0 y refl (ltb-true (at y) e iy) in
          let same : x ≡ y = same_first x y xs ys rx ry t.0 u.0 t.1 u.1 in
          let rest = rec (has_past e xs ys y (λ q z ez lt s. not_first x xs rx q z ez (same ∙ s)) (λ q. h (suc q)))
          (has_past e ys xs x (λ q z ez lt s. not_first y ys ry q z ez (sym same ∙ s)) (λ q. k (suc q))) in
          λ d. same d ∷ rest d
      go true false ix iy rec = absurd (let t = h 0 x refl (ltb-true (at x) e ix) in alone x y ys ry ix iy t.0 t.1)
      go false true ix iy rec = absurd (let t = k 0 y refl (ltb-true (at y) e iy) in alone y x xs rx iy ix t.0 t.1)
      go false false ix iy rec = rec
          (has_past e xs ys y (λ q z ez lt s. let a = ltb-false (at y) e iy in let w : at y ≡ at z = ap at s in
          omega (arith, a, w, lt)) (λ q. h (suc q)))
          (has_past e ys xs x (λ q z ez lt s. let a = ltb-false (at x) e ix in let w : at x ≡ at z = ap at s in
          omega (arith, a, w, lt)) (λ q. k (suc q)))

  -- where all are before e, those are all
  pub upto_all : (e : ℕ) (xs : List A) → ((q : ℕ) (x : A) → get_elem? xs q ≡ some x → at x < e) → upto e xs ≡ xs
  upto_all e [] h = refl
  upto_all e (x ∷ xs) h = let rest = upto_all e xs (λ q. h (suc q)) in
      ap (λ (b : Bool). cond b (x ∷ upto e xs) (upto e xs)) (lt-ltb (at x) e (h 0 x refl)) ∙ (λ d. x ∷ rest d)

  -- what does not look at elements that are not before j is the same of those before e
  looks_upto : {C : Type 0} (F : List A → C) (j e : ℕ) → j ≤ e → ((x : A) (xs : List A) → j ≤ at x → F (x ∷ xs) ≡ F xs)
      → ((x : A) (xs ys : List A) → F xs ≡ F ys → F (x ∷ xs) ≡ F (x ∷ ys)) → (xs : List A) → F (upto e xs) ≡ F xs
  looks_upto F j e le late more [] = refl
  looks_upto F j e le late more (x ∷ xs) = go (ltb (at x) e) refl (looks_upto F j e le late more xs)
    where
      go : (b : Bool) → ltb (at x) e ≡ b → F (upto e xs) ≡ F xs → F (cond b (x ∷ upto e xs) (upto e xs)) ≡ F (x ∷ xs)
      go true is rec = more x (upto e xs) xs rec
      go false is rec = rec ∙ sym (late x xs (let l = ltb-false (at x) e is in omega arith))

  looks_same : {C : Type 0} (F : List A → C) (j e : ℕ) → j ≤ e → ((x : A) (xs : List A) → j ≤ at x → F (x ∷ xs) ≡ F xs)
      → ((x : A) (xs ys : List A) → F xs ≡ F ys → F (x ∷ xs) ≡ F (x ∷ ys)) → (xs ys : List A) → upto e xs ≡ upto e ys
      → F xs ≡ F ys
  looks_same F j e le late more xs ys same = sym (looks_upto F j e le late more xs)
      ∙ (ap F same ∙ looks_upto F j e le late more ys)

-- a last publish before j stands before j
last_before : (ps : List Published) (j i : ℕ) (f : Option ℕ) (a : ℕ) → ((b : ℕ) → f ≡ Some b → b ≤ j)
    → last_publish ps j i f ≡ Some a → a ≤ j
last_before [] j i f a h e = h a e
last_before (p ∷ ps) j i f a h e = last_before ps j i (cond (ltb p.at j && eqb p.worker i) (Some p.at) f) a
    (go (ltb p.at j) (eqb p.worker i) refl) e
  where
    go : (x y : Bool) → ltb p.at j ≡ x → (b : ℕ) → cond (x && y) (Some p.at) f ≡ Some b → b ≤ j
    go true true is b s = let l = ltb-true p.at j is in let t : p.at ≡ b = same_Some p.at b s in omega (arith, l, t)
    go true false is b s = h b s
    go false y is b s = h b s

-- The one trace and the other, the same before e.
pub record Agree (e : ℕ) (ps qs : List Published) (zs ys : List Answered) : Type 0 where
  pub publishes : upto at_publish e ps ≡ upto at_publish e qs
  pub answers : upto at_answer e zs ≡ upto at_answer e ys
  pub sent : Has at_publish e ps qs
  pub unsent : Has at_publish e qs ps
  pub given : Has at_answer e zs ys
  pub ungiven : Has at_answer e ys zs

pub agree_back : (e : ℕ) (ps qs : List Published) (zs ys : List Answered) → Agree e ps qs zs ys → Agree e qs ps ys zs
agree_back e ps qs zs ys a = record {
  publishes = sym a.publishes;
  answers = sym a.answers;
  sent = a.unsent;
  unsent = a.sent;
  given = a.ungiven;
  ungiven = a.given;
}

module _ (e : ℕ) (ps qs : List Published) (zs ys : List Answered) (ag : Agree e ps qs zs ys) where
  weigh_same : (v : Published → ℕ) (j i : ℕ) → j ≤ e → weigh v ps j i ≡ weigh v qs j i
  weigh_same v j i le = looks_same at_publish (λ l. weigh v l j i) j e le
      (λ p l late. ap (λ (b : Bool). cond (b && eqb p.worker i) (v p) 0 + weigh v l j i) (le-ltb p.at j late)
      ∙ zero-add (weigh v l j i))
      (λ p l m same. ap (λ (y : ℕ). cond (ltb p.at j && eqb p.worker i) (v p) 0 + y) same) ps qs ag.publishes

  pub number_same : (j i : ℕ) → j ≤ e → number_at ps j i ≡ number_at qs j i
  number_same j i le = number_is ps j i ∙ (weigh_same (λ p. 1) j i le ∙ sym (number_is qs j i))

  pub row_same : (adds : List Op → ℕ → ℕ) (j i x : ℕ) → j ≤ e → row_at adds ps j i x ≡ row_at adds qs j i x
  row_same adds j i x le = row_is adds ps j i x ∙ (weigh_same (λ p. adds p.ops x) j i le ∙ sym (row_is adds qs j i x))

  pub total_same : (adds : List Op → ℕ → ℕ) (j x : ℕ) → j ≤ e → total_at adds ps j x ≡ total_at adds qs j x
  total_same adds j x le = looks_same at_publish (λ l. total_at adds l j x) j e le
      (λ p l late. ap (λ (b : Bool). cond b (adds p.ops x) 0 + total_at adds l j x) (le-ltb p.at j late)
      ∙ zero-add (total_at adds l j x))
      (λ p l m same. ap (λ (y : ℕ). cond (ltb p.at j) (adds p.ops x) 0 + y) same) ps qs ag.publishes

  lent_same : (j i : ℕ) → j ≤ e → lent_at ps zs j i ≡ lent_at qs ys j i
  lent_same j i le = go (last_publish ps j i None) refl ∙ ap (λ (g : Option ℕ → Option ℕ). lent_since ys i (g None))
      (looks_same at_publish (λ l f. last_publish l j i f) j e le
      (λ p l late k f. last_publish l j i (cond (le-ltb p.at j late k && eqb p.worker i) (Some p.at) f))
      (λ p l m same k f. same k (cond (ltb p.at j && eqb p.worker i) (Some p.at) f)) ps qs ag.publishes)
    where
      go : (o : Option ℕ) → last_publish ps j i None ≡ o → lent_since zs i o ≡ lent_since ys i o
      go None is = refl
      go (Some a) is =
          let l = last_before ps j i None a (λ b s. absurd (none-some b s)) is in
          ap (λ (g : Option View → Option View). g None)
          (looks_same at_answer (λ l f. last_view l a i f) a e (omega (arith, l, le))
          (λ z l late k f. last_view l a i (cond (le-ltb z.end a late k && eqb z.actor i) z.view f))
          (λ z l m same k f. same k (cond (ltb z.end a && eqb z.actor i) z.view f)) zs ys ag.answers)

  pub meets_same : (r : Read) → r.at ≤ e → Meets ps zs r → Meets qs ys r
  meets_same r le m = record { number = m.number ∙ number_same r.at r.place le; view = m.view ∙ lent_same r.at r.place le }

  module _ (n c h g : ℕ) (es : List Event) where
    may_begin_same : (j i : ℕ) (ops : List Op) → j ≤ e → MayBegin n c h g es ps zs j i ops → MayBegin n c h g es qs ys j i ops
    may_begin_same j i ops le m = ⊎_elim
        (λ t. inl (
          t.0,
          (let a = t.1 in let b = number_same j i le in omega (arith, a, b)),
          accepts_same c h g (row_at (sum_ops c h) ps j i) (row_at (sum_ops c h) qs j i) ops
              (λ x lt. row_same (sum_ops c h) j i x le) t.2,
        ))
        (λ t. inr t) m

    pub begins_same : (j i : ℕ) (o : Option Event) → j ≤ e → BeginsAt n c h g es ps zs j i o → BeginsAt n c h g es qs ys j i o
    begins_same j i None le b = b
    begins_same j i (Some (Begin who ops)) le b = (b.0, may_begin_same j i ops.items le b.1)
    begins_same j i (Some (Step who)) le b = b
    begins_same j i (Some (Torn who)) le b = b

    pub ends_same : (j i : ℕ) → j < e → EndsAt n c h g es ps zs j i → EndsAt n c h g es qs ys j i
    ends_same j i lt ends = ⊎_elim
        (λ t. let at = t.1.4 in let u = ag.sent t.1.0 t.1.1 t.1.2 (omega (arith, at, lt)) in
        inl (t.0, (u.0, t.1.1, u.1, t.1.3, t.1.4)))
        (λ t. let at = t.1.4 in let u = ag.given t.1.0 t.1.1 t.1.2 (omega (arith, at, lt)) in
        inr (t.0, (u.0, t.1.1, u.1, t.1.3, t.1.4)))
        ends

-- the same turns are open up to e
pub open_same : (n c h g : ℕ) (es : List Event) (e : ℕ) (ps qs : List Published) (zs ys : List Answered) → Agree e ps qs zs ys
    → (j i b : ℕ) → j ≤ e → IsOpen n c h g es ps zs j i b → IsOpen n c h g es qs ys j i b
open_same n c h g es e ps qs zs ys ag zero i b le o = absurd o
open_same n c h g es e ps qs zs ys ag (suc j) i b le o =
    let back = agree_back e ps qs zs ys ag in let lt : j < e = omega (arith, le) in let up : j ≤ e = omega (arith, le) in
    ⊎_elim
    (λ t. inl (
      open_same n c h g es e ps qs zs ys ag j i b up t.0,
      λ ends. t.1 (ends_same e qs ps ys zs back n c h g es j i lt ends),
    ))
    (λ t. inr (
      t.0,
      begins_same e ps qs zs ys ag n c h g es j i (slice_get es j) up t.1,
      λ d u. t.2 d (open_same n c h g es e qs ps ys zs back j i d up u),
    ))
    o
