-- The last of a list whose elements are known by what f gives of them.
use Rattle.std.proofs.Common.{◌≡◌, List, [], ◌∷◌, ◌++◌, map, length, ap, sym, ◌∙◌, refl, arith}
use Rattle.std.proofs.lemmas.List.{map-append, length-append}

module _ {Y : Type 0} where
  heads : (x y : Y) (xs ys : List Y) → x ∷ xs ≡ y ∷ ys → x ≡ y
  heads x y xs ys e = cc

  tails : (x y : Y) (xs ys : List Y) → x ∷ xs ≡ y ∷ ys → xs ≡ ys
  tails x y xs ys e = cc

  both : (x y : Y) (xs ys : List Y) → x ≡ y → xs ≡ ys → x ∷ xs ≡ y ∷ ys
  both x y xs ys e f = cc

  -- what stands before two last elements, and these
  lasts : (us vs : List Y) (u v : Y) → us ++ u ∷ [] ≡ vs ++ v ∷ [] → (us ≡ vs) × (u ≡ v)
  lasts [] [] u v e = (refl, heads u v [] [] e)
  lasts [] (y ∷ vs) u v e = absurd (omega (arith, ap length e, length-append vs (v ∷ [])))
  lasts (x ∷ us) [] u v e = absurd (omega (arith, ap length e, length-append us (u ∷ [])))
  lasts (x ∷ us) (y ∷ vs) u v e =
      let rest = lasts us vs u v (tails _ _ _ _ e) in
      (both x y us vs (heads _ _ _ _ e) rest.0, rest.1)

module _ {X Y : Type 0} where
  pub popped : (f : X → Y) (xs ys : List X) (x : X) (us : List Y) (u : Y) → xs ≡ ys ++ x ∷ [] → map f xs ≡ us ++ u ∷ []
      → (map f ys ≡ us) × (f x ≡ u)
  popped f xs ys x us u is all = lasts (map f ys) us (f x) u (sym (map-append f ys (x ∷ [])) ∙ (ap (map f) (sym is) ∙ all))
