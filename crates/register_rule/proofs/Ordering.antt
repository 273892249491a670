-- The opening and the confirming loads of a member in one order: what each step leaves true of it.
use Rattle.std.proofs.Common.{◌≡◌, ℕ, ◌<◌, ◌≤◌, inl, inr, ⊎_elim, false, ◌||◌, ◌==◌, List, [], ◌∷◌, ◌++◌, length, map, sym, refl}
use Rattle.std.proofs.Common.{ap, ◌∙◌, subst, arith}
use mathlib.Core.Option.{some, some-ne-none}
use lib.ListN.{get_elem?}
use Rattle.std.proofs.lemmas.Bool.{cond_both, eqb-true}
use Rattle.std.proofs.lemmas.List.{length_push}
use Rattle.atomic_table.proofs.Lists.{at_longer, at_last}
use Rattle.register_rule.specs.declared.view.Look.{Look}
use Rattle.register_rule.specs.Loads.{AreRising, IsTried, AreOrdered}
use Rattle.register_rule.specs.ScanSteps.{confirmed_look}
use Rattle.register_rule.proofs.Words.{at_below, from_map, last_is}

-- nothing is loaded yet
pub none_ordered : AreOrdered [] [] [] []
none_ordered = record {
  each = refl;
  inside = λ q k e. absurd (some-ne-none k (sym e));
  order = λ p q j k le e e'. absurd (some-ne-none j (sym e));
  opens = λ p q x y le e e'. absurd (some-ne-none x (sym e));
  confirms = λ p q x y le e e'. absurd (some-ne-none x (sym e));
  risen = λ p q k x y e e'. absurd (some-ne-none x (sym e));
  tried = λ q l e. absurd (some-ne-none l (sym e));
}

-- one more load, which found no less than each load of its place
rising_more : (xs : List (ℕ × ℕ)) (i v : ℕ) → ((q : ℕ) (y : ℕ × ℕ) → get_elem? xs q ≡ some y → y.0 ≡ i → y.1 ≤ v) → AreRising xs
    → AreRising (xs ++ (i, v) ∷ [])
rising_more xs i v top ok p q x y le ex ey same = ⊎_elim
    (λ (old : get_elem? xs q ≡ some y). ⊎_elim
    (λ (old' : get_elem? xs p ≡ some x). ok p q x y le old' old same)
    (λ (new : ((i, v) ≡ x) × (p ≡ length xs)). let lt = at_below xs q y old in let at = new.1 in absurd (omega arith))
    (last_is xs (i, v) x p ex))
    (λ (new : ((i, v) ≡ y) × (q ≡ length xs)).
    let place : i ≡ y.0 = ap (λ (z : ℕ × ℕ). z.0) new.0 in let number : v ≡ y.1 = ap (λ (z : ℕ × ℕ). z.1) new.0 in ⊎_elim
    (λ (old' : get_elem? xs p ≡ some x). let h = top p x old' (same ∙ sym place) in omega (arith, h, number))
    (λ (new' : ((i, v) ≡ x) × (p ≡ length xs)). let number' : v ≡ x.1 = ap (λ (z : ℕ × ℕ). z.1) new'.0 in
    omega (arith, number, number'))
    (last_is xs (i, v) x p ex))
    (last_is xs (i, v) y q ey)

-- other looks, each of which was tried
pub looks_ordered : (opened confirmed : List (ℕ × ℕ)) (before : List ℕ) (ls ls' : List Look)
    → AreOrdered opened confirmed before ls → ((q : ℕ) (l : Look) → get_elem? ls' q ≡ some l → IsTried opened confirmed before l)
    → AreOrdered opened confirmed before ls'
looks_ordered opened confirmed before ls ls' ok tried' = record {
  each = ok.each;
  inside = ok.inside;
  order = ok.order;
  opens = ok.opens;
  confirms = ok.confirms;
  risen = ok.risen;
  tried = tried';
}

-- no place is tried
pub rest_ordered : (opened confirmed : List (ℕ × ℕ)) (before : List ℕ) (ls : List Look) → AreOrdered opened confirmed before ls
    → AreOrdered opened confirmed before []
rest_ordered opened confirmed before ls ok = looks_ordered opened confirmed before ls [] ok
    (λ q l e. absurd (some-ne-none l (sym e)))

-- looks that change one by one, but not in what they were tried by
pub map_ordered : (opened confirmed : List (ℕ × ℕ)) (before : List ℕ) (ls : List Look) (f : Look → Look)
    → ((l : Look) → IsTried opened confirmed before l → IsTried opened confirmed before (f l))
    → AreOrdered opened confirmed before ls → AreOrdered opened confirmed before (map f ls)
map_ordered opened confirmed before ls f still ok = looks_ordered opened confirmed before ls (map f ls) ok
    (λ q l e. let t = from_map f ls q l e in subst (IsTried opened confirmed before) t.2 (still t.0 (ok.tried q t.0 t.1)))

module _ (opened confirmed : List (ℕ × ℕ)) (before : List ℕ) (ls : List Look) (i v : ℕ)
    (top : (q : ℕ) (y : ℕ × ℕ) → get_elem? opened q ≡ some y → y.0 ≡ i → y.1 ≤ v)
    (top' : (q : ℕ) (y : ℕ × ℕ) → get_elem? confirmed q ≡ some y → y.0 ≡ i → y.1 ≤ v) (ok : AreOrdered opened confirmed before ls)
  where
    abbrev opened' : List (ℕ × ℕ)
    opened' = opened ++ (i, v) ∷ []

    abbrev confirmed' : List (ℕ × ℕ)
    confirmed' = confirmed ++ (i, v) ∷ []

    -- one more opening load
    pub open_ordered : AreOrdered opened' confirmed before ls
    open_ordered = record {
      each = ok.each;
      inside = λ q k e. let h = ok.inside q k e in let long = length_push opened (i, v) in omega (arith, h, long);
      order = ok.order;
      opens = rising_more opened i v top ok.opens;
      confirms = ok.confirms;
      risen = λ p q k x y ex ey ek same. ⊎_elim
          (λ (old : get_elem? opened p ≡ some x). ok.risen p q k x y old ey ek same)
          (λ (new : ((i, v) ≡ x) × (p ≡ length opened)).
          let place : i ≡ x.0 = ap (λ (z : ℕ × ℕ). z.0) new.0 in let number : v ≡ x.1 = ap (λ (z : ℕ × ℕ). z.1) new.0 in
          let at = new.1 in
          let low = top' q y ey (sym same ∙ sym place) in let le = ok.inside q k ek in
          (λ lt. absurd (omega (arith, lt, at, le)), λ _. omega (arith, low, number)))
          (last_is opened (i, v) x p ex);
      tried = λ q l e. let t = ok.tried q l e in (t.0, at_longer opened ((i, v) ∷ []) t.0 (l.place, l.number) t.1, t.2);
    }

    -- and the look that begins with it
    pub begin_ordered : (l : Look) → l.place ≡ i → l.number ≡ v → l.sure ≡ false → l.found ≡ 0
        → AreOrdered opened' confirmed before (ls ++ l ∷ [])
    begin_ordered l place number free none = looks_ordered opened' confirmed before ls (ls ++ l ∷ []) open_ordered
        (λ q y e. ⊎_elim
        (λ (old : get_elem? ls q ≡ some y). open_ordered.tried q y old)
        (λ (new : (l ≡ y) × (q ≡ length ls)). subst (IsTried opened' confirmed before) new.0 (
          length opened,
          at_last opened (i, v) (length opened) refl ∙ (λ c. some (sym place c, sym number c)),
          inl (free, none),
        ))
        (last_is ls l y q e))

    abbrev before' : List ℕ
    before' = before ++ length opened ∷ []

    -- one more confirming load
    settled_tried : (l : Look) → IsTried opened confirmed before l → IsTried opened confirmed' before' (confirmed_look i v l)
    settled_tried l t = cond_both (l.place == i) (record l { sure = l.sure || l.number == v; found = v }) l
        (IsTried opened confirmed' before')
        (λ hit. let here : l.place ≡ i = eqb-true l.place i hit in let lt = at_below opened t.0 (l.place, l.number) t.1 in (
          t.0,
          t.1,
          inr (
            length confirmed,
            length opened,
            at_last confirmed (i, v) (length confirmed) refl ∙ (λ c. some (sym here c, v)),
            at_last before (length opened) (length confirmed) ok.each,
            lt,
          ),
        ))
        (λ _. (
          t.0,
          t.1,
          ⊎_elim
              (λ (free : (l.sure ≡ false) × (l.found ≡ 0)). inl free)
              (λ (old : (q : ℕ) × (k : ℕ) × (get_elem? confirmed q ≡ some (l.place, l.found)) × (get_elem? before q ≡ some k)
              × (t.0 < k)).
              inr (
                old.0,
                old.1,
                at_longer confirmed ((i, v) ∷ []) old.0 (l.place, l.found) old.2,
                at_longer before (length opened ∷ []) old.0 old.1 old.3,
                old.4,
              ))
              t.2,
        ))

    pub confirm_ordered : AreOrdered opened confirmed' before' (map (confirmed_look i v) ls)
    confirm_ordered = record {
      each = let a = length_push before (length opened) in let b = length_push confirmed (i, v) in let e = ok.each in
          omega (arith, a, b, e);
      inside = λ q k e. ⊎_elim
          (λ (old : get_elem? before q ≡ some k). ok.inside q k old)
          (λ (new : (length opened ≡ k) × (q ≡ length before)). let is = new.0 in omega (arith, is))
          (last_is before (length opened) k q e);
      order = λ p q j k le ej ek. ⊎_elim
          (λ (old : get_elem? before q ≡ some k). ⊎_elim
          (λ (old' : get_elem? before p ≡ some j). ok.order p q j k le old' old)
          (λ (new : (length opened ≡ j) × (p ≡ length before)). let lt = at_below before q k old in let at = new.1 in
          absurd (omega arith))
          (last_is before (length opened) j p ej))
          (λ (new : (length opened ≡ k) × (q ≡ length before)). let is = new.0 in ⊎_elim
          (λ (old' : get_elem? before p ≡ some j). let h = ok.inside p j old' in omega (arith, h, is))
          (λ (new' : (length opened ≡ j) × (p ≡ length before)). let is' = new'.0 in omega (arith, is, is'))
          (last_is before (length opened) j p ej))
          (last_is before (length opened) k q ek);
      opens = ok.opens;
      confirms = rising_more confirmed i v top' ok.confirms;
      risen = λ p q k x y ex ey ek same. ⊎_elim
          (λ (old : get_elem? confirmed q ≡ some y). ⊎_elim
          (λ (old' : get_elem? before q ≡ some k). ok.risen p q k x y ex old old' same)
          (λ (new : (length opened ≡ k) × (q ≡ length before)). let lt = at_below confirmed q y old in let at = new.1 in
          let e = ok.each in absurd (omega arith))
          (last_is before (length opened) k q ek))
          (λ (new : ((i, v) ≡ y) × (q ≡ length confirmed)).
          let place : i ≡ y.0 = ap (λ (z : ℕ × ℕ). z.0) new.0 in let number : v ≡ y.1 = ap (λ (z : ℕ × ℕ). z.1) new.0 in
          let at = new.1 in
          let low = top p x ex (same ∙ sym place) in let lt = at_below opened p x ex in ⊎_elim
          (λ (old' : get_elem? before q ≡ some k). let lt' = at_below before q k old' in let e = ok.each in absurd (omega arith))
          (λ (new' : (length opened ≡ k) × (q ≡ length before)). let is = new'.0 in
          (λ _. omega (arith, low, number), λ le. absurd (omega (arith, le, is, lt))))
          (last_is before (length opened) k q ek))
          (last_is confirmed (i, v) y q ey);
      tried = λ q l e. let t = from_map (confirmed_look i v) ls q l e in
          subst (IsTried opened confirmed' before') t.2 (settled_tried t.0 (ok.tried q t.0 t.1));
    }
