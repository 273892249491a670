-- Buckets and their cumulated values.
use Rattle.std.specs.Prelude.{◌≡◌, ℕ, ◌+◌, ◌<◌, ◌==◌, if◌then◌else◌, List, length, take, slice_index, sum, count_by, nat_lt}
use Rattle.std.specs.Prelude.{nat_le}
use Rattle.bucket_math.specs.Bounds.{place_of}

-- the cumulated value at a place: the sum of the buckets up to it, and from the place `len` on the sum of all
abbrev pub cumulated : (buckets : List ℕ) → (len : ℕ) → ℕ → ℕ
cumulated buckets len k = if nat_lt k len then sum (take (k + 1) buckets) else sum buckets

-- the 25 buckets count these values, each at its place among the bounds
pub record CountsValues (bounds values buckets : List ℕ) : Type 0 where
  pub all_buckets : length buckets ≡ 25
  pub counts : (place : ℕ) → place < 25 → slice_index buckets place ≡ count_by (λ value. place_of bounds value == place) values

-- where buckets count values, the cumulated value at a bound is the number of values not above it,
-- and the one after the last bound is the number of all values
abbrev pub CumulationLaw : (bounds : List ℕ) → Type 0
CumulationLaw bounds = (values buckets : List ℕ) → CountsValues bounds values buckets →
    ((k : ℕ) → k < length bounds →
    cumulated buckets (length bounds) k ≡ count_by (λ value. nat_le value (slice_index bounds k)) values)
    × (cumulated buckets (length bounds) (length bounds) ≡ length values)
