-- How metric names and label names are spelled (Prometheus documentation, "Data model").
use Rattle.std.specs.Prelude.{◌≡◌, ℕ, ◌<◌, Bool, false, ◌&&◌, ◌||◌, ◌==◌, nat_lt, nat_le, List, length, slice_index, IsTrue}

-- `[a-zA-Z_]`
abbrev pub is_letter : ℕ → Bool
is_letter b = (nat_le 97 b && nat_le b 122) || (nat_le 65 b && nat_le b 90) || b == 95

-- `[0-9]`
abbrev pub is_digit : ℕ → Bool
is_digit b = nat_le 48 b && nat_le b 57

-- a name may have the byte at this place: a letter anywhere, a digit after the first place,
-- and in a metric name a colon anywhere
abbrev pub name_takes : (colon : Bool) → ℕ → ℕ → Bool
name_takes colon place b = is_letter b || (nat_lt 0 place && is_digit b) || (colon && b == 58)

-- the first byte that a name may not have at its place stands at `at`
pub record FirstWrong (colon : Bool) (text : List ℕ) (at : ℕ) : Type 0 where
  pub within : at < length text
  pub wrong : name_takes colon at (slice_index text at) ≡ false
  pub first : (k : ℕ) → k < at → IsTrue (name_takes colon k (slice_index text k))
