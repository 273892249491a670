-- Two lists that are compared element by element.
use Rattle.std.proofs.Common.{◌≡◌, true, false, ℕ, suc, ◌+◌, ◌<◌, min, List, [], ◌∷◌, length, drop, drop-cons, get_or, refl, sym}
use Rattle.std.proofs.Common.{ap₂, ◌∙◌, arith}
use mathlib.Core.Bool.{true≢false}
use Rattle.std.proofs.lemmas.List.{length-drop}
use Rattle.std.proofs.lemmas.Cmp.{ranked}
use Rattle.std.specs.Cmp.Lexicographic.{slice_cmp}
use Rattle.std.specs.Ordering.{MatchOrdering, is_ne, nat_cmp, ordering_then}
use Rattle.std.specs.declared.cmp.Ordering.{Ordering}
use Rattle.std.specs.declared.cmp.Ordering.TheVariants.{Less, Equal, Greater}

-- the elements from a place on, by the first of them
pub compared_first : {X : Type 0} (R : X → X → Ordering) (xs ys : List X) (i : ℕ) (x y : X) → i < length xs → i < length ys
    → x ≡ get_or xs i x → y ≡ get_or ys i y
    → slice_cmp R (drop i xs) (drop i ys) ≡ ordering_then (R x y) (slice_cmp R (drop (i + 1) xs) (drop (i + 1) ys))
compared_first R xs ys i x y in_xs in_ys is_x is_y =
    let next : suc i ≡ i + 1 = omega arith in
    let at_x : drop i xs ≡ x ∷ drop (i + 1) xs = drop-cons xs i x in_xs ∙ ap₂ (λ z n. z ∷ drop n xs) (sym is_x) next in
    let at_y : drop i ys ≡ y ∷ drop (i + 1) ys = drop-cons ys i y in_ys ∙ ap₂ (λ z n. z ∷ drop n ys) (sym is_y) next in
    ap₂ (slice_cmp R) at_x at_y

-- elements that are not equal decide
pub decided : (order rest : Ordering) → is_ne order ≡ true → ordering_then order rest ≡ order
decided Less rest apart = refl
decided Equal rest apart = absurd (true≢false (sym apart))
decided Greater rest apart = refl

-- and those that are equal leave it to the rest
pub deferred : (order rest : Ordering) → is_ne order ≡ false → ordering_then order rest ≡ rest
deferred Less rest same = absurd (true≢false same)
deferred Equal rest same = refl
deferred Greater rest same = absurd (true≢false same)

-- where one of two lists has ended, their lengths decide
by_lengths : {X : Type 0} (R : X → X → Ordering) (xs ys : List X) (order : Ordering) → min (length xs) (length ys) ≡ 0
    → MatchOrdering order (length xs < length ys) (length xs ≡ length ys) (length ys < length xs) → order ≡ slice_cmp R xs ys
by_lengths R [] [] Less short lengths = let none : 0 < 0 = lengths in absurd (omega arith)
by_lengths R [] [] Equal short lengths = refl
by_lengths R [] [] Greater short lengths = let none : 0 < 0 = lengths in absurd (omega arith)
by_lengths R [] (y ∷ ys) Less short lengths = refl
by_lengths R [] (y ∷ ys) Equal short lengths = let none : 0 ≡ suc (length ys) = lengths in absurd (omega arith)
by_lengths R [] (y ∷ ys) Greater short lengths = let none : suc (length ys) < 0 = lengths in absurd (omega arith)
by_lengths R (x ∷ xs) [] Less short lengths = let none : suc (length xs) < 0 = lengths in absurd (omega arith)
by_lengths R (x ∷ xs) [] Equal short lengths = let none : suc (length xs) ≡ 0 = lengths in absurd (omega arith)
by_lengths R (x ∷ xs) [] Greater short lengths = refl
by_lengths R (x ∷ xs) (y ∷ ys) order short lengths = let none : min (suc (length xs)) (suc (length ys)) ≡ 0 = short in
    absurd (omega arith)

-- lengths from a place on stand to each other as the whole lengths do
shifted : (a b i c d : ℕ) (order : Ordering) → c + i ≡ a → d + i ≡ b → MatchOrdering order (a < b) (a ≡ b) (b < a)
    → MatchOrdering order (c < d) (c ≡ d) (d < c)
shifted a b i c d Less is_a is_b lengths = let lt : a < b = lengths in omega arith
shifted a b i c d Equal is_a is_b lengths = let same : a ≡ b = lengths in omega arith
shifted a b i c d Greater is_a is_b lengths = let gt : b < a = lengths in omega arith

-- from the place on where one of two lists ends, their lengths decide
pub compared_end : {X : Type 0} (R : X → X → Ordering) (xs ys : List X) (i : ℕ) (order : Ordering)
    → i ≡ min (length xs) (length ys) → order ≡ nat_cmp (length xs) (length ys)
    → order ≡ slice_cmp R (drop i xs) (drop i ys)
compared_end R xs ys i order end is =
    let left_xs = length-drop i xs in
    let left_ys = length-drop i ys in
    by_lengths R (drop i xs) (drop i ys) order (omega arith)
    (shifted (length xs) (length ys) i (length (drop i xs)) (length (drop i ys)) order (omega arith) (omega arith)
    (ranked (length xs) (length ys) order is))
