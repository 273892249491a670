-- The label names of a family.
use Rattle.std.specs.Prelude.{◌≢◌, ℕ, ◌<◌, ◌≤◌, List, length, take, slice_get, IsSomeAnd, AllPairs, Contains}
use Rattle.metric_desc.specs.declared.labels.LabelsFault.{LabelsFault}
use Rattle.metric_desc.specs.declared.labels.LabelsFault.TheVariants.{TooManyLabels, DuplicateLabel}

-- no two are the same
abbrev pub AreDistinct : List (List ℕ) → Type 0
AreDistinct labels = AllPairs (λ a b. a ≢ b) labels

-- at most 8, no two the same
pub record AreLabels (labels : List (List ℕ)) : Type 0 where
  pub few : length labels ≤ 8
  pub distinct : AreDistinct labels

-- the label at this place stands before it too, and those before it are distinct
pub record FirstDuplicate (labels : List (List ℕ)) (place : ℕ) : Type 0 where
  pub distinct : AreDistinct (take place labels)
  pub again : IsSomeAnd (slice_get labels place) (Contains (take place labels))

-- why label names are no family's
abbrev pub IsLabelsFault : List (List ℕ) → LabelsFault → Type 0
IsLabelsFault labels TooManyLabels = 8 < length labels
IsLabelsFault labels (DuplicateLabel place) = (length labels ≤ 8) × FirstDuplicate labels place

-- the number of each fault
abbrev pub number_of : LabelsFault → ℕ
number_of (DuplicateLabel _) = 7
number_of TooManyLabels = 9
