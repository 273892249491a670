-- What an update lists of what its scan found.
use Rattle.std.specs.Prelude.{◌≡◌, ◌⊎◌, ℕ, ◌+◌, ◌*◌, ◌<◌, Bool, true, false, List, Contains, slice_index}
use Rattle.ledger_core.specs.Ops.{width}
use Rattle.snapshot_scan.specs.declared.scan_end.ScanEnd.{ScanEnd}
use Rattle.snapshot_scan.specs.declared.scan_end.ScanEnd.TheVariants.{Direct}
use Rattle.snapshot_scan.specs.declared.scan_memory.ScanMemory.{ScanMemory}
use Rattle.snapshot_scan.specs.ChangedItems.{ChangedView}
use Rattle.snapshot_scan.specs.ScanMemories.{rows_of, totals_in, changed_totals_in, answer_of}
use Rattle.snapshot_scan.specs.RememberedRows.{AreNumbers}
use Rattle.segment_layout.specs.Layout.{depth}
use Rattle.snapshot_update.specs.declared.buffer_images.BufferImages.{BufferImages}
use Rattle.snapshot_update.specs.Fit.{AreImages, idle_words}
use mathlib.Core.Option.{some}
use lib.ListN.{get_elem?}

-- the scan found all that was remembered, and the worker's own row was: nothing more is late
pub record IsStill (ended : ScanEnd) (row_known : Bool) (late late' : ChangedView) : Type 0 where
  pub quiet : ended ≡ Direct true
  pub remembered : row_known ≡ true
  pub same : late' ≡ late

-- n numbers from the item `first` on are listed, too, and no more
pub record NotesRange (first n : ℕ) (old new : ChangedView) : Type 0 where
  pub listed : new.all ≡ false → old.all ≡ false
  pub keeps : new.all ≡ false → (j : ℕ) → Contains old.items j → Contains new.items j
  pub notes : new.all ≡ false → (i : ℕ) → i < n → Contains new.items (first + i)
  pub others : (j : ℕ) → Contains new.items j → Contains old.items j ⊎ ((i : ℕ) × (i < n) × (j ≡ first + i))

-- in a buffer of rows of w words, all n numbers of the vector are listed, too, and the totals of these words
pub record ListsChangedTotals (n w : ℕ) (changed_totals old new : ChangedView) : Type 0 where
  pub listed : new.all ≡ false → old.all ≡ false
  pub few : new.all ≡ false → changed_totals.all ≡ false
  pub keeps : new.all ≡ false → (j : ℕ) → Contains old.items j → Contains new.items j
  pub numbers : new.all ≡ false → (i : ℕ) → i < n → Contains new.items (w + 1 + i)
  pub totals : new.all ≡ false → (k : ℕ) → Contains changed_totals.items k → Contains new.items (w + 1 + n + k)
  pub inside : (j : ℕ) → Contains new.items j → Contains old.items j ⊎ (j < 2 * w + 1 + n)

-- the scan ended direct, and found the number of its own worker; all numbers of the vector are late, too, and so are the totals
-- that it moved
pub record IsFollowed (n c h g index number : ℕ) (memory : ScanMemory n c h g) (ended : ScanEnd)
    (late late' : ChangedView) : Type 0
  where
    pub direct : (quiet : Bool) × (ended ≡ Direct quiet)
    pub found : slice_index (answer_of memory ended).vector index ≡ number
    pub lists : ListsChangedTotals n (width c h g) (changed_totals_in memory) late late'

-- a scan ended direct, and the version after it is known: its numbers and sums are those of the remembered rows, of which the
-- worker's own is its row, and where the shown buffer may differ from it is listed as late
pub record IsNext (n c h g i number : ℕ) (row : List ℕ) (memory : ScanMemory n c h g) (ended : ScanEnd) (im : BufferImages)
    : Type 0 where
  pub direct : (quiet : Bool) × (ended ≡ Direct quiet)
  pub numbers : AreNumbers (answer_of memory ended).vector (rows_of memory)
  pub totals : (answer_of memory ended).totals ≡ totals_in memory
  pub row_known : get_elem? (rows_of memory) i ≡ some (record { number = number; row = row })
  pub images : AreImages (depth n (width c h g)) (idle_words row (rows_of memory) (totals_in memory)) im
