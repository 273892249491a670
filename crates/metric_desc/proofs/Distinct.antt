-- Lists of labels with no two the same.
use Rattle.std.proofs.Common.{◌≡◌, ℕ, ◌+◌, ◌<◌, List, [], ◌∷◌, ◌++◌, length, take, get_or, Contains, sym, ap, subst, ◌∙◌}
use Rattle.std.proofs.lemmas.List.{take_more}
use Rattle.std.proofs.lemmas.List.Elements.{Contains-get_or}
use Rattle.std.proofs.lemmas.List.Quantifiers.{all_pairs_push}
use Rattle.metric_desc.specs.Labels.{AreDistinct}

-- one more label that does not stand before it
pub AreDistinct-next : (labels : List (List ℕ)) (n : ℕ) (name : List ℕ) → n < length labels → name ≡ get_or labels n name
    → (Contains (take n labels) name → ⊥) → AreDistinct (take n labels) → AreDistinct (take (n + 1) labels)
AreDistinct-next labels n name within is fresh distinct =
    let e : take (n + 1) labels ≡ take n labels ++ name ∷ [] = take_more labels n name within
    ∙ ap (λ x. take n labels ++ x ∷ []) (sym is) in
    subst AreDistinct (sym e)
    (all_pairs_push (λ a b. a ≡ b → ⊥) (take n labels) name distinct
    (λ k d lt same. fresh (subst (λ x. Contains (take n labels) x) same (Contains-get_or (take n labels) k d lt))))
