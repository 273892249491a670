-- Lists of equal length joined end to end: reading and writing the j-th word of the i-th one.
use Rattle.std.proofs.Common.{◌≡◌, ℕ, zero, suc, ◌+◌, ◌*◌, ◌-◌, ◌<◌, List, [], ◌∷◌, ◌++◌, length, get_or, set, replicate, sym}
use Rattle.std.proofs.Common.{refl, ap, ◌∙◌, arith, length-append, All}
use Rattle.std.specs.List.{concat}
use Rattle.std.proofs.lemmas.List.{get_or_append_left, get_or-append-add, set-append_left, set-append_right}
use Rattle.std.proofs.lemmas.List.{replicate-append-replicate}
use Rattle.std.proofs.lemmas.List.Elements.{All-head, All-tail}

-- each list has n words
abbrev pub AllHave : ℕ → List (List ℕ) → Type 0
AllHave n xss = All (λ xs. length xs ≡ n) xss

abbrev pub HasLength : ℕ → List ℕ → Type 0
HasLength n xs = length xs ≡ n

pub length-concat : (n : ℕ) (xss : List (List ℕ)) → AllHave n xss → length (concat xss) ≡ n * length xss
length-concat n [] h = omega arith
length-concat n (xs ∷ xss) h =
    let here : length xs ≡ n = All-head (HasLength n) xs xss h in
    let rest = length-concat n xss (All-tail (HasLength n) xs xss h) in
    simp length-append (omega (arith, here, rest))

-- the place is within the lists
pub place-lt : (n i j m : ℕ) → i < m → j < n → n * i + j < n * m
place-lt n i j m hi hj = grind arith

pub get_or-concat : (n : ℕ) (xss : List (List ℕ)) (i j : ℕ) → AllHave n xss → i < length xss → j < n
    → get_or (concat xss) (n * i + j) 0 ≡ get_or (get_or xss i []) j 0
get_or-concat n [] i j h hi hj = absurd (omega arith)
get_or-concat n (xs ∷ xss) zero j h hi hj =
    let here : length xs ≡ n = All-head (HasLength n) xs xss h in
    let e : n * zero + j ≡ j = omega arith in
    rw e (get_or_append_left xs (concat xss) 0 j (omega arith))
get_or-concat n (xs ∷ xss) (suc i) j h hi hj =
    let here : length xs ≡ n = All-head (HasLength n) xs xss h in
    let e : n * suc i + j ≡ length xs + (n * i + j) = omega arith in
    rw e (get_or-append-add xs (concat xss) (n * i + j) 0 ∙ get_or-concat n xss i j (All-tail (HasLength n) xs xss h)
    (omega arith) hj)

pub concat-set : (n : ℕ) (xss : List (List ℕ)) (i j v : ℕ) → AllHave n xss → i < length xss → j < n
    → concat (set xss i (set (get_or xss i []) j v)) ≡ set (concat xss) (n * i + j) v
concat-set n [] i j v h hi hj = absurd (omega arith)
concat-set n (xs ∷ xss) zero j v h hi hj =
    let here : length xs ≡ n = All-head (HasLength n) xs xss h in
    let e : n * zero + j ≡ j = omega arith in
    rw e (sym (set-append_left xs (concat xss) j v (omega arith)))
concat-set n (xs ∷ xss) (suc i) j v h hi hj =
    let here : length xs ≡ n = All-head (HasLength n) xs xss h in
    let after : n * suc i + j - n ≡ n * i + j = omega arith in
    ap (λ ys. xs ++ ys) (concat-set n xss i j v (All-tail (HasLength n) xs xss h) (omega arith) hj)
    ∙ sym (set-append_right xs (concat xss) n (n * suc i + j) v here (omega arith) ∙ ap (λ k. xs ++ set (concat xss) k v) after)

-- lists of zeros joined are zeros
pub concat-replicate : (n m : ℕ) → concat (replicate m (replicate n 0)) ≡ replicate (n * m) 0
concat-replicate n zero = let e : n * zero ≡ 0 = omega arith in rw e refl
concat-replicate n (suc m) =
    let e : n * suc m ≡ n + n * m = omega arith in
    rw e (ap (λ ys. replicate n 0 ++ ys) (concat-replicate n m) ∙ replicate-append-replicate n (n * m) 0)
