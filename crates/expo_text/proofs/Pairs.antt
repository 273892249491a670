-- What holds of each element and of each two elements of a list, by recursion on the list.
use Rattle.std.proofs.Common.{ℕ, zero, suc, ◌+◌, ◌<◌, ◌≤◌, arith, List, [], ◌∷◌, ◌++◌, map}
use Rattle.std.specs.Prelude.{⊤, AllPairs, flat_map}
use Rattle.std.specs.List.{AllByRecursion, range_with_len}
use Rattle.std.proofs.lemmas.List.Elements.{All-from_recursion, recursion_from_All}
use Rattle.std.proofs.lemmas.List.Kept.{AllPairs-cons}

-- P holds of each element
abbrev pub Each : {X : Type 0} → (X → Type 0) → List X → Type 0
Each P xs = AllByRecursion P xs

-- R holds of each element and each later one
abbrev pub Pairs : {X : Type 0} → (X → X → Type 0) → List X → Type 0
Pairs R [] = ⊤
Pairs R (x ∷ xs) = Each (R x) xs × Pairs R xs

-- R holds of each of the first list and each of the second
abbrev pub Across : {X : Type 0} → (X → X → Type 0) → List X → List X → Type 0
Across R xs ys = Each (λ x. Each (R x) ys) xs

-- from the recursion to the places
pub pairs_places : {X : Type 0} (R : X → X → Type 0) (xs : List X) → Pairs R xs → AllPairs R xs
pairs_places R [] all = λ i j d lt within. absurd (omega arith)
pairs_places R (x ∷ xs) all = AllPairs-cons R x xs (All-from_recursion (R x) xs all.0) (pairs_places R xs all.1)

-- from the places to the recursion
pub pairs_recursion : {X : Type 0} (R : X → X → Type 0) (xs : List X) → AllPairs R xs → Pairs R xs
pairs_recursion R [] all = tt
pairs_recursion R (x ∷ xs) all = (
  recursion_from_All (R x) xs (λ k d within. all 0 (suc k) d (omega arith) (omega arith)),
  pairs_recursion R xs (λ i j d lt within. all (suc i) (suc j) d (omega arith) (omega arith)),
)

-- what holds of each element, weakened
pub each_weaker : {X : Type 0} (P Q : X → Type 0) → ((x : X) → P x → Q x) → (xs : List X) → Each P xs → Each Q xs
each_weaker P Q weaker [] all = tt
each_weaker P Q weaker (x ∷ xs) all = (weaker x all.0, each_weaker P Q weaker xs all.1)

-- what holds of any element
pub each_any : {X : Type 0} (P : X → Type 0) → ((x : X) → P x) → (xs : List X) → Each P xs
each_any P any [] = tt
each_any P any (x ∷ xs) = (any x, each_any P any xs)

-- two facts on each element
pub each_both : {X : Type 0} (P Q : X → Type 0) (xs : List X) → Each P xs → Each Q xs → Each (λ x. P x × Q x) xs
each_both P Q [] ps qs = tt
each_both P Q (x ∷ xs) ps qs = ((ps.0, qs.0), each_both P Q xs ps.1 qs.1)

-- a list after another
pub each_append : {X : Type 0} (P : X → Type 0) (xs ys : List X) → Each P xs → Each P ys → Each P (xs ++ ys)
each_append P [] ys left right = right
each_append P (x ∷ xs) ys left right = (left.0, each_append P xs ys left.1 right)

-- what a function makes of each
pub each_map : {X Y : Type 0} (P : Y → Type 0) (f : X → Y) (xs : List X) → Each (λ x. P (f x)) xs → Each P (map f xs)
each_map P f [] all = tt
each_map P f (x ∷ xs) all = (all.0, each_map P f xs all.1)

-- the pieces that a function makes of each
pub each_flat_map : {X Y : Type 0} (P : Y → Type 0) (f : X → List Y) (xs : List X) → Each (λ x. Each P (f x)) xs
    → Each P (flat_map f xs)
each_flat_map P f [] all = tt
each_flat_map P f (x ∷ xs) all = each_append P (f x) (flat_map f xs) all.0 (each_flat_map P f xs all.1)

-- what holds of each two, weakened by what holds of each
pub pairs_weaker : {X : Type 0} (P : X → Type 0) (R S : X → X → Type 0) → ((x y : X) → P x → P y → R x y → S x y)
    → (xs : List X) → Each P xs → Pairs R xs → Pairs S xs
pairs_weaker P R S weaker [] each all = tt
pairs_weaker P R S weaker (x ∷ xs) each all = (
  each_weaker (λ y. P y × R x y) (S x) (λ y both. weaker x y each.0 both.0 both.1) xs (each_both P (R x) xs each.1 all.0),
  pairs_weaker P R S weaker xs each.1 all.1,
)

-- two facts on each two
pub pairs_both : {X : Type 0} (R S : X → X → Type 0) (xs : List X) → Pairs R xs → Pairs S xs → Pairs (λ x y. R x y × S x y) xs
pairs_both R S [] rs ss = tt
pairs_both R S (x ∷ xs) rs ss = (each_both (R x) (S x) xs rs.0 ss.0, pairs_both R S xs rs.1 ss.1)

-- a list after another
pub pairs_append : {X : Type 0} (R : X → X → Type 0) (xs ys : List X) → Pairs R xs → Pairs R ys → Across R xs ys
    → Pairs R (xs ++ ys)
pairs_append R [] ys left right across = right
pairs_append R (x ∷ xs) ys left right across =
    (each_append (R x) xs ys left.0 across.0, pairs_append R xs ys left.1 right across.1)

-- what a function makes of each
pub pairs_map : {X Y : Type 0} (R : Y → Y → Type 0) (f : X → Y) (xs : List X) → Pairs (λ a b. R (f a) (f b)) xs
    → Pairs R (map f xs)
pairs_map R f [] all = tt
pairs_map R f (x ∷ xs) all = (each_map (R (f x)) f xs all.0, pairs_map R f xs all.1)

-- some elements, and the pieces that a function makes of each
across_pieces : {X Y : Type 0} (R : Y → Y → Type 0) (f : X → List Y) (ys : List Y) (xs : List X)
    → Each (λ x. Across R ys (f x)) xs → Across R ys (flat_map f xs)
across_pieces R f ys [] all = each_any (λ a. ⊤) (λ a. tt) ys
across_pieces R f ys (x ∷ xs) all =
    each_weaker (λ a. Each (R a) (f x) × Each (R a) (flat_map f xs)) (λ a. Each (R a) (f x ++ flat_map f xs))
    (λ a both. each_append (R a) (f x) (flat_map f xs) both.0 both.1) ys
    (each_both (λ a. Each (R a) (f x)) (λ a. Each (R a) (flat_map f xs)) ys all.0 (across_pieces R f ys xs all.1))

-- the pieces that a function makes of each: within each piece, and across each two
pub pairs_flat_map : {X Y : Type 0} (R : Y → Y → Type 0) (f : X → List Y) (xs : List X)
    → Each (λ x. Pairs R (f x)) xs → Pairs (λ x y. Across R (f x) (f y)) xs → Pairs R (flat_map f xs)
pairs_flat_map R f [] within across = tt
pairs_flat_map R f (x ∷ xs) within across =
    pairs_append R (f x) (flat_map f xs) within.0 (pairs_flat_map R f xs within.1 across.1) (across_pieces R f (f x) xs across.0)

-- across two lists, from what holds of each element of either
pub across_by : {X : Type 0} (P Q : X → Type 0) (R : X → X → Type 0) → ((x y : X) → P x → Q y → R x y)
    → (xs ys : List X) → Each P xs → Each Q ys → Across R xs ys
across_by P Q R by xs ys ps qs =
    each_weaker P (λ x. Each (R x) ys) (λ x p. each_weaker Q (R x) (λ y q. by x y p q) ys qs) xs ps

-- the numbers from a on
pub each_range : (P : ℕ → Type 0) (a n : ℕ) → ((k : ℕ) → a ≤ k → k < a + n → P k) → Each P (range_with_len a n)
each_range P a zero holds = tt
each_range P a (suc n) holds =
    (holds a (omega arith) (omega arith), each_range P (a + 1) n (λ k low high. holds k (omega arith) (omega arith)))

-- each two of the numbers from a on
pub pairs_range : (R : ℕ → ℕ → Type 0) (a n : ℕ) → ((j k : ℕ) → a ≤ j → j < k → k < a + n → R j k) → Pairs R (range_with_len a n)
pairs_range R a zero holds = tt
pairs_range R a (suc n) holds = (
  each_range (R a) (a + 1) n (λ k low high. holds a k (omega arith) (omega arith) (omega arith)),
  pairs_range R (a + 1) n (λ j k low lt high. holds j k (omega arith) lt (omega arith)),
)
