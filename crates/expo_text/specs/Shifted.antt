-- Numbers that a text shows shifted: with a point before the last of their decimal digits.
use Rattle.std.specs.Prelude.{◌≡◌, ◌≢◌, ℕ, zero, suc, ◌+◌, ◌-◌, ◌*◌, ◌/◌, ◌%◌, ◌^◌, ◌≤◌, ◌==◌, if◌then◌else◌, ℤ, pos, negsuc}
use Rattle.std.specs.Prelude.{List, [], ◌∷◌, ◌++◌, length, codes, decimal}
use Rattle.std.specs.Str.Parse.{AllDigits, IsNumeral, digits_value}

-- a point and these digits; without digits nothing at all
abbrev pub pointed : List ℕ → List ℕ
pointed [] = []
pointed (digit ∷ digits) = codes "." ++ (digit ∷ digits)

-- a token writes a number of parts, of which 10 ^ places are one: decimal digits, and after a point at most `places` more
pub record WritesTo (places : ℕ) (token : List ℕ) (n : ℕ) : Type 0 where
  pub whole : List ℕ
  pub part : List ℕ
  pub is : token ≡ whole ++ pointed part
  pub numeral : IsNumeral 10 whole
  pub digits : AllDigits 10 part
  pub few : length part ≤ places
  pub value : n ≡ digits_value 10 whole * 10 ^ places + digits_value 10 part * 10 ^ (places - length part)

-- a number shifted by so many digits: written so, with no zero in front but one right before the point, and none at the end of
-- what follows the point
pub record IsShifted (digits n : ℕ) (bytes : List ℕ) : Type 0 where
  pub writes : WritesTo digits bytes n
  pub front : (rest : List ℕ) → writes.whole ≡ codes "0" ++ rest → rest ≡ []
  pub end : (rest : List ℕ) → writes.part ≢ rest ++ codes "0"

-- the digits after the point of so many parts, of which 10 ^ digits are one, until nothing is left
abbrev pub fraction : (digits parts : ℕ) → List ℕ
fraction zero parts = []
fraction (suc digits) parts = if parts == 0 then [] else ((48 + parts / 10 ^ digits) ∷ fraction digits (parts % 10 ^ digits))

-- the text of a number that is shifted by so many digits
abbrev pub shifted : (digits n : ℕ) → List ℕ
shifted digits n = decimal (n / 10 ^ digits) ++ pointed (fraction digits (n % 10 ^ digits))

-- and of one that may be below zero
abbrev pub signed_shifted : (digits : ℕ) → ℤ → List ℕ
signed_shifted digits (pos n) = shifted digits n
signed_shifted digits (negsuc n) = codes "-" ++ shifted digits (suc n)
