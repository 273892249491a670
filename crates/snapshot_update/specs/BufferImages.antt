-- Images of buffers: what a worker knows of both its buffers, and where two of them may differ.
use Rattle.std.specs.Prelude.{◌≡◌, ℕ, false, ◌<◌, List, ◌∷◌, ◌++◌, length, slice_index, Contains, true, [], replicate}
use Rattle.register_rule.specs.declared.view.Member.{Member}
use Rattle.snapshot_scan.specs.ChangedItems.{ChangedView}
use Rattle.snapshot_update.specs.declared.next_version.NextVersion.{NextVersion}
use Rattle.snapshot_update.specs.declared.buffer_images.BufferImages.{BufferImages}

-- the words of a version's buffer: its row, its flag, and the view that it lends
abbrev pub version_words : (row : List ℕ) → (flag : ℕ) → (vector totals : List ℕ) → List ℕ
version_words row flag vector totals = row ++ flag ∷ (vector ++ totals)

-- two images of a buffer differ at no items but the listed ones, unless all may have changed
abbrev pub DifferAt : ChangedView → (old new : List ℕ) → Type 0
DifferAt changed old new = changed.all ≡ false → (j : ℕ) → j < length new → ¬ (Contains changed.items j)
    → slice_index old j ≡ slice_index new j

-- the hidden buffer has these words
abbrev pub with_hidden : List ℕ → Member → Member
with_hidden words m = record m { work = record m.work { hidden = words } }

-- the row, the flag, the vector and the totals
abbrev pub target_of : {C H G : ℕ} → NextVersion C H G → List ℕ
target_of v = version_words v.row.now v.flag v.vector.now v.totals.now

-- two buffers of b zeros, and nothing is known of what changed
pub record AreBlank (b : ℕ) (i : BufferImages) : Type 0 where
  pub hidden : i.hidden.items ≡ replicate b 0
  pub shown : i.shown.items ≡ replicate b 0
  pub recent : i.recent.all ≡ true
  pub recent_none : i.recent.items ≡ []
  pub late : i.late.all ≡ true
  pub late_none : i.late.items ≡ []
  pub joined : i.joined ≡ false
