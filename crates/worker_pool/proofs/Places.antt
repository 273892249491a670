-- Items of lists, by their places.
use Rattle.std.proofs.Common.{◌≡◌, ℕ, zero, suc, ◌+◌, List, [], ◌∷◌, ◌++◌, length, take, drop, refl, sym, ap, ◌∙◌, subst, arith}
use mathlib.Core.Option.{some, some-injective, some-ne-none}
use lib.ListN.{get_elem?}
use Rattle.std.specs.Prelude.{Some, slice_get}
use Rattle.std.proofs.lemmas.Option.{get_or_from_slice_get, slice_get_within}
use Rattle.register_rule.proofs.Words.{there}

module _ {A : Type 0} where
  left_then : (k : ℕ) (xs ys : List A) (x : A) → drop k xs ≡ x ∷ ys → (get_elem? xs k ≡ some x) × (ys ≡ drop (suc k) xs)
  left_then zero (z ∷ zs) ys x e = (ap (λ (l : List A). get_elem? l 0) e, sym (ap (drop 1) e))
  left_then zero [] ys x e = absurd (let h = ap length e in omega (arith, h))
  left_then (suc k) [] ys x e = absurd (let h = ap length e in omega (arith, h))
  left_then (suc k) (z ∷ zs) ys x e = left_then k zs ys x e

  -- the first of what is left of a list stands at the place where that begins
  pub first_left : (k : ℕ) (xs ys : List A) (x : A) → drop k xs ≡ x ∷ ys → (get_elem? xs k ≡ some x) × (ys ≡ drop (k + 1) xs)
  first_left k xs ys x e =
      let h : suc k ≡ k + 1 = omega arith in
      subst (λ (j : ℕ). (get_elem? xs k ≡ some x) × (ys ≡ drop j xs)) h (left_then k xs ys x e)

  taken_then : (k : ℕ) (xs : List A) (x : A) → get_elem? xs k ≡ some x → take (suc k) xs ≡ take k xs ++ x ∷ []
  taken_then k [] x e = absurd (some-ne-none x (sym e))
  taken_then zero (y ∷ ys) x e = ap (λ (z : A). z ∷ []) (some-injective y x e)
  taken_then (suc k) (y ∷ ys) x e = ap (λ (l : List A). y ∷ l) (taken_then k ys x e)

  -- one more item of the beginning of a list
  pub take_next : (k : ℕ) (xs : List A) (x : A) → get_elem? xs k ≡ some x → take (k + 1) xs ≡ take k xs ++ x ∷ []
  take_next k xs x e = let h : suc k ≡ k + 1 = omega arith in
      subst (λ (j : ℕ). take j xs ≡ take k xs ++ x ∷ []) h (taken_then k xs x e)

  -- what stands in a list stands there still when the list grows
  pub stays : (xs : List A) (y : A) (k : ℕ) (x : A) → get_elem? xs k ≡ some x → get_elem? (xs ++ y ∷ []) k ≡ some x
  stays [] y k x e = absurd (some-ne-none x (sym e))
  stays (z ∷ zs) y zero x e = e
  stays (z ∷ zs) y (suc k) x e = stays zs y k x e

  -- what a list grew by stands behind all that was there
  pub at_end : (xs : List A) (x : A) → get_elem? (xs ++ x ∷ []) (length xs) ≡ some x
  at_end [] x = refl
  at_end (y ∷ ys) x = at_end ys x

  -- what `slice_get` finds, `get_elem?` finds
  pub item_is : (xs : List A) (k : ℕ) (x : A) → slice_get xs k ≡ Some x → get_elem? xs k ≡ some x
  item_is xs k x e = there xs k x (slice_get_within xs k x e) ∙ ap some (get_or_from_slice_get xs k x x e)
