-- Texts and changes that C hands in, one by one.
use Rattle.std.proofs.Common.{◌≡◌, ℕ, ◌+◌, ◌<◌, List, [], ◌∷◌, ◌++◌, Bor, All, map, take, length, get_or, ap, sym, ◌∙◌, arith}
use Rattle.std.proofs.lemmas.List.{take_more, take-map, get_or-map, length-map, map-append}
use mathlib.Core.Option.{some}
use Rattle.register_rule.proofs.Words.{there, from_all}
use Rattle.dirgwako.specs.Texts.{text_at, texts_of}

-- what is so of all texts is so of one
pub good_there : (P : List ℕ → Type 0) (items : List (Bor (List ℕ))) (i : ℕ) (d : Bor (List ℕ)) → i < length items
    → All P (texts_of items) → P (text_at (get_or items i d))
good_there P items i d lt all =
    let lt' : i < length (map text_at items) = omega (arith, lt, length-map items text_at) in
    from_all P (texts_of items) all i (text_at (get_or items i d))
    (there (texts_of items) i [] lt' ∙ ap some (get_or-map text_at items i d [] lt))

-- one more, mapped
pub more_mapped : {X Y : Type 0} (f : X → Y) (items : List X) (i : ℕ) (d : X) → i < length items
    → take (i + 1) (map f items) ≡ take i (map f items) ++ f (get_or items i d) ∷ []
more_mapped f items i d lt =
    take-map f (i + 1) items
    ∙ (ap (map f) (take_more items i d lt) ∙ (map-append f (take i items) (get_or items i d ∷ [])
    ∙ ap (λ l. l ++ f (get_or items i d) ∷ []) (sym (take-map f i items))))
