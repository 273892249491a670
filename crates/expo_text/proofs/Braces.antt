-- The labels of a sample, one by one.
use Rattle.std.proofs.Common.{◌≡◌, ℕ, suc, rules, ◌+◌, ◌<◌, List, [], ◌∷◌, ◌++◌, length, take, get_or, codes, refl, sym, ap, ap₂}
use Rattle.std.proofs.Common.{◌∙◌, arith, append_assoc, append-nil}
use Rattle.std.specs.List.{zip, flat_map}
use Rattle.std.proofs.lemmas.List.{take_more, flat_map_more, length-take-le}
use Rattle.std.proofs.lemmas.Slice.Zip.{get_or-zip, length-zip}
use Rattle.expo_text.specs.Text.{label_text, labels_text}
use Rattle.expo_text.specs.Walk.{mark, opened, closing}

mark-suc : (n : ℕ) → mark (suc n) ≡ codes ","
mark-suc n = search rules

brace-suc : (n : ℕ) → closing (suc n) ≡ codes "}"
brace-suc n = search rules

-- one more label
pub opened-more : (labels : List (List ℕ × List ℕ)) (label : List ℕ × List ℕ)
    → opened labels ++ (mark (length labels) ++ label_text label) ≡ opened (labels ++ label ∷ [])
opened-more [] label = ap (λ l. codes "{" ++ l) (sym (append-nil (label_text label)))
opened-more (first ∷ labels) label =
    let rest : List (List ℕ × List ℕ) → List ℕ = λ xs. flat_map (λ (y : List ℕ × List ℕ). codes "," ++ label_text y) xs in
    let start = codes "{" ++ label_text first in
    ap (λ m. opened (first ∷ labels) ++ (m ++ label_text label)) (mark-suc (length labels))
    ∙ append_assoc start (rest labels) (codes "," ++ label_text label)
    ∙ ap (λ l. start ++ l) (flat_map_more (λ (y : List ℕ × List ℕ). codes "," ++ label_text y) [] labels label)

pub opened-next : (names values : List (List ℕ)) (n : ℕ) (name value : List ℕ) → n < length names → length values ≡ length names
    → name ≡ get_or names n name → value ≡ get_or values n value
    → opened (take n (zip names values)) ++ (mark n ++ label_text (name, value)) ≡ opened (take (n + 1) (zip names values))
opened-next names values n name value within same name_is value_is =
    let inside : n < length values = omega (arith, within, same) in
    let all : n < length (zip names values) = rw length-zip (omega (arith, within, inside)) in
    let count : length (take n (zip names values)) ≡ n = length-take-le n (zip names values) (omega (arith, all)) in
    let label : (name, value) ≡ get_or (zip names values) n (name, value) =
    ap₂ (λ (a b : List ℕ). (a, b)) name_is value_is ∙ sym (get_or-zip names values n (name, value) within inside) in
    ap (λ k. opened (take n (zip names values)) ++ (mark k ++ label_text (name, value))) (sym count)
    ∙ opened-more (take n (zip names values)) (name, value)
    ∙ ap opened (sym (take_more (zip names values) n (name, value) all ∙ ap (λ y. take n (zip names values) ++ y ∷ [])
    (sym label)))

closed-some : (label : List ℕ × List ℕ) (labels : List (List ℕ × List ℕ)) → opened (label ∷ labels) ++ codes "}" ≡ labels_text
    (label ∷ labels)
closed-some label labels = refl

closed-more : (labels : List (List ℕ × List ℕ)) (label : List ℕ × List ℕ)
    → opened (labels ++ label ∷ []) ++ codes "}" ≡ labels_text (labels ++ label ∷ [])
closed-more [] label = refl
closed-more (_ ∷ _) label = refl

-- the labels, and what ends them
pub labels_text-closed : (labels : List (List ℕ × List ℕ)) → opened labels ++ closing (length labels) ≡ labels_text labels
labels_text-closed [] = refl
labels_text-closed (label ∷ labels) = ap (λ l. opened (label ∷ labels) ++ l) (brace-suc (length labels))
    ∙ closed-some label labels

-- the labels, one more, and the brace that ends them
pub labels_text-more : (labels : List (List ℕ × List ℕ)) (label : List ℕ × List ℕ)
    → opened labels ++ (mark (length labels) ++ label_text label) ++ codes "}" ≡ labels_text (labels ++ label ∷ [])
labels_text-more labels label = ap (λ l. l ++ codes "}") (opened-more labels label) ∙ closed-more labels label
