-- Integers as a sign and a size.
use Rattle.std.specs.Prelude.{◌≡◌, ℕ, suc, Bool, true, false, ℤ, pos, negsuc}

-- whether an integer is below zero, and how far from zero it is; so zero is not below it
abbrev pub IsSigned : ℤ → (is_below : Bool) → (size : ℕ) → Type 0
IsSigned (pos n) is_below size = (is_below ≡ false) × (size ≡ n)
IsSigned (negsuc n) is_below size = (is_below ≡ true) × (size ≡ suc n)
