-- One history of publishes, and the vectors that it passes through.
use Rattle.std.specs.Prelude.{◌≡◌, ◌⊎◌, ℕ, zero, suc, ◌+◌, ◌≤◌, ◌==◌, cond, List, [], ◌∷◌, length, take}
use mathlib.Core.Option.{some}
use lib.ListN.{get_elem?}

-- f i, f (i + 1), .. , k of them
abbrev pub tab : (i k : ℕ) → (ℕ → ℕ) → List ℕ
tab i zero f = []
tab i (suc k) f = f i ∷ tab (suc i) k f

-- how often i stands in a list
abbrev pub count : ℕ → List ℕ → ℕ
count i [] = 0
count i (x ∷ xs) = cond (x == i) 1 0 + count i xs

-- the numbers of n workers, where these workers have published, in this order
abbrev pub numbers_after : (n : ℕ) → List ℕ → List ℕ
numbers_after n history = tab 0 n (λ i. count i history)

-- the vector is the numbers at one moment of the history
abbrev pub IsCut : (n : ℕ) → (history vector : List ℕ) → Type 0
IsCut n history vector = (t : ℕ) × (t ≤ length history) × (vector ≡ numbers_after n (take t history))

-- u is above v at no place
abbrev pub Below : (u v : List ℕ) → Type 0
Below u v = (i x y : ℕ) → get_elem? u i ≡ some x → get_elem? v i ≡ some y → x ≤ y

-- one of the two is above the other at no place
abbrev pub Comparable : (u v : List ℕ) → Type 0
Comparable u v = Below u v ⊎ Below v u
