-- One row in the place of another.
use Rattle.std.specs.Prelude.{◌≡◌, ℕ, ◌+◌, ◌<◌, ◌≤◌, List, slice_index}
use Rattle.snapshot_scan.specs.ChangedItems.{ChangedView, ListsChanges}

-- from `from` on the words of the row are parts of the n sums, each of which is at most 2^53
abbrev pub AreParts : (from n : ℕ) → (row sums : List ℕ) → Type 0
AreParts from n row sums = (k : ℕ) → from ≤ k → k < n → (slice_index row k ≤ slice_index sums k)
    × (slice_index sums k ≤ 9007199254740992)

-- of n sums, from `from` on and before `to`, the words of one row were taken, and those of another added; what changed is listed
pub record Exchanges (n from to : ℕ) (old new before after : List ℕ) (listed listed' : ChangedView) : Type 0 where
  pub inside : (k : ℕ) → from ≤ k → k < to → slice_index after k + slice_index old k ≡ slice_index before k + slice_index new k
  pub low : (k : ℕ) → k < from → slice_index after k ≡ slice_index before k
  pub high : (k : ℕ) → to ≤ k → slice_index after k ≡ slice_index before k
  pub moves : ListsChanges n before after listed listed'
