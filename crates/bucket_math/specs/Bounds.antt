-- The bounds of a histogram's buckets, and the place of a value among them.
use Rattle.std.specs.Prelude.{◌≡◌, ℕ, ◌-◌, ◌<◌, ◌≤◌, ◌⊎◌, List, length, take, slice_index, count_by, nat_lt, All, AllPairs}
use Rattle.bucket_math.specs.Words.{greatest_word}

-- at most 24 bounds, each above the one before and at most 2^48 - 1
pub record AreBounds (bounds : List ℕ) : Type 0 where
  pub few : length bounds ≤ 24
  pub rising : AllPairs (λ a b. a < b) bounds
  pub bounded : All (λ bound. bound ≤ greatest_word) bounds

-- the bound at this place is the 25th, or over 2^48 - 1, or not above the one before
abbrev pub IsBadBound : List ℕ → ℕ → Type 0
IsBadBound bounds place =
    (place ≡ 24) ⊎ ((greatest_word < slice_index bounds place)
    ⊎ ((0 < place) × (slice_index bounds place ≤ slice_index bounds (place - 1))))

-- the first bad bound stands at this place
pub record FirstBadBound (bounds : List ℕ) (place : ℕ) : Type 0 where
  pub within : place < length bounds
  pub before : AreBounds (take place bounds)
  pub bad : IsBadBound bounds place

-- the place of a value's bucket: how many bounds are below the value, so that a bound is inclusive
abbrev pub place_of : List ℕ → ℕ → ℕ
place_of bounds value = count_by (λ bound. nat_lt bound value) bounds
