-- What stands at the places of a list, mapped.
use Rattle.std.proofs.Common.{◌≡◌, ℕ, ◌+◌, ◌<◌, List, [], ◌∷◌, ◌++◌, map, take, length, get_or, ap, sym, ◌∙◌}
use Rattle.std.specs.Prelude.{slice_set}
use Rattle.std.proofs.lemmas.List.{take_more, take-map, take_more_set, map-append}

module _ {X Y : Type 0} where
  -- one more
  pub more_mapped : (f : X → Y) (items : List X) (i : ℕ) (d : X) → i < length items
      → take (i + 1) (map f items) ≡ take i (map f items) ++ f (get_or items i d) ∷ []
  more_mapped f items i d lt =
      take-map f (i + 1) items
      ∙ (ap (map f) (take_more items i d lt) ∙ (map-append f (take i items) (get_or items i d ∷ [])
      ∙ ap (λ (l : List Y). l ++ f (get_or items i d) ∷ []) (sym (take-map f i items))))

  -- one more is set
  pub more_set : (f : X → Y) (items : List X) (made : List Y) (i : ℕ) (d : X) → i < length items → i < length made
      → take i made ≡ take i (map f items)
      → take (i + 1) (slice_set made i (f (get_or items i d))) ≡ take (i + 1) (map f items)
  more_set f items made i d lt room before =
      take_more_set made i (f (get_or items i d)) room
      ∙ (ap (λ (l : List Y). l ++ f (get_or items i d) ∷ []) before ∙ sym (more_mapped f items i d lt))
