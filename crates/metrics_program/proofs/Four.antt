-- The elements of a list of two or of four that are taken from its end, one by one.
use Rattle.std.proofs.Common.{◌≡◌, List, [], ◌∷◌, ◌++◌, map, All, Some, sym, ap, ◌∙◌}
use Rattle.std.proofs.lemmas.List.{map-append, same_from_push}
use Rattle.std.proofs.lemmas.List.Elements.{All-pop}

module _ {X : Type 0} where
  pub all_two : (P : X → Type 0) (xs ys zs : List X) (a b : X) → xs ≡ ys ++ b ∷ [] → ys ≡ zs ++ a ∷ [] → All P xs → P a × P b
  all_two P xs ys zs a b xs_is ys_is all =
      let one = All-pop P xs ys (Some b) xs_is all in
      let two = All-pop P ys zs (Some a) ys_is one.0 in
      (two.1, one.1)

  pub all_four : (P : X → Type 0) (us vs xs ys zs : List X) (a b c d : X) → us ≡ vs ++ d ∷ [] → vs ≡ xs ++ c ∷ []
      → xs ≡ ys ++ b ∷ [] → ys ≡ zs ++ a ∷ [] → All P us
      → P a × P b × P c × P d
  all_four P us vs xs ys zs a b c d us_is vs_is xs_is ys_is all =
      let one = All-pop P us vs (Some d) us_is all in
      let two = All-pop P vs xs (Some c) vs_is one.0 in
      let front = all_two P xs ys zs a b xs_is ys_is two.0 in
      (front.0, front.1, two.1, one.1)

module _ {X Y : Type 0} (f : X → Y) where
  last_of : (xs ys : List X) (x : X) (vs : List Y) (v : Y) → xs ≡ ys ++ x ∷ [] → map f xs ≡ vs ++ v ∷ [] → (map f ys ≡ vs)
      × (f x ≡ v)
  last_of xs ys x vs v is are = same_from_push (map f ys) vs (f x) v (sym (map-append f ys (x ∷ [])) ∙ ap (map f) (sym is) ∙ are)

  pub of_two : (xs ys zs : List X) (a b : X) (v w : Y) → xs ≡ ys ++ b ∷ [] → ys ≡ zs ++ a ∷ [] → map f xs ≡ v ∷ w ∷ [] → (f a ≡ v)
      × (f b ≡ w)
  of_two xs ys zs a b v w xs_is ys_is are =
      let one = last_of xs ys b (v ∷ []) w xs_is are in
      let two = last_of ys zs a [] v ys_is one.0 in
      (two.1, one.1)

  pub of_four : (ts us xs ys zs : List X) (a b c d : X) (p q r s : Y) → ts ≡ us ++ d ∷ [] → us ≡ xs ++ c ∷ [] → xs ≡ ys ++ b ∷ []
      → ys ≡ zs ++ a ∷ []
      → map f ts ≡ p ∷ q ∷ r ∷ s ∷ [] → (f a ≡ p) × (f b ≡ q) × (f c ≡ r) × (f d ≡ s)
  of_four ts us xs ys zs a b c d p q r s ts_is us_is xs_is ys_is are =
      let one = last_of ts us d (p ∷ q ∷ r ∷ []) s ts_is are in
      let two = last_of us xs c (p ∷ q ∷ []) r us_is one.0 in
      let front = of_two xs ys zs a b p q xs_is ys_is two.0 in
      (front.0, front.1, two.1, one.1)
