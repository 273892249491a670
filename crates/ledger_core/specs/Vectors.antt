-- Vectors: one number for each worker, namely how often it has published.
use Rattle.std.specs.Prelude.{ℕ, ◌&&◌, nat_le, Bool, true, false, List, [], ◌∷◌}

-- the vector is below the floor nowhere
abbrev pub is_above : (floor vector : List ℕ) → Bool
is_above [] vector = true
is_above (x ∷ floor) [] = false
is_above (x ∷ floor) (y ∷ vector) = nat_le x y && is_above floor vector
