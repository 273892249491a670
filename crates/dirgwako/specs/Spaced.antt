-- Bounds by rule.
use Rattle.std.specs.Prelude.{ℕ, ◌+◌, ◌*◌, ◌^◌, List, map}
use Rattle.std.specs.List.{range_with_len}
use Rattle.dirgwako.specs.declared.bounds.Growth.{Growth}
use Rattle.dirgwako.specs.declared.bounds.Growth.TheVariants.{Add, Multiply}

-- the bound at place k, from 0, where each is so much above the one before
abbrev pub linear_at : (start width k : ℕ) → ℕ
linear_at start width k = start + width * k

-- the bound at place k, from 0, where each is so many times the one before
abbrev pub exponential_at : (start factor k : ℕ) → ℕ
exponential_at start factor k = start * factor ^ k

-- so many bounds, of which this is the one at each place
abbrev pub bounds_by : (at : ℕ → ℕ) → (count : ℕ) → List ℕ
bounds_by at count = map at (range_with_len 0 count)

-- the bound at place k, from 0, where the bounds grow so
abbrev pub bound_at : Growth → (start k : ℕ) → ℕ
bound_at (Add width) start k = linear_at start width k
bound_at (Multiply factor) start k = exponential_at start factor k

-- the one behind a bound
abbrev pub bound_after : Growth → (bound : ℕ) → ℕ
bound_after (Add width) bound = bound + width
bound_after (Multiply factor) bound = bound * factor
