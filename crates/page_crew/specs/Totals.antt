-- What a page's recorders have published together, on all of its boards.
use Rattle.std.specs.Prelude.{◌≡◌, ℕ, ◌+◌, ◌<◌, List, Some, length, slice_get}
use Rattle.snapshot_scan.specs.Snapshots.{Taken}
use Rattle.page_crew.specs.Settling.{AreAll, IsExactOn, IsMisplaced}
use Rattle.page_crew.specs.declared.fault.SettleFault.{SettleFault}
use Rattle.page_crew.specs.declared.fault.SettleFault.TheVariants.{NotAll, NoMemory}
use Rattle.page_crew.specs.declared.page_recorder.PageRecorder.{PageRecorder}
use Rattle.page_crew.specs.declared.page_totals.PageTotals.{PageTotals}

module _ {N C H G : ℕ} where
  -- the id of the page's first board; the others follow it
  abbrev pub first_in : PageTotals N C H G → ℕ
  first_in totals = totals.first

  -- the snapshot of each board
  abbrev pub snapshots_in : PageTotals N C H G → List Taken
  snapshots_in totals = totals.boards.items

  -- a board of this id is among them
  abbrev pub HasBoard : (id : ℕ) → PageTotals N C H G → Type 0
  HasBoard id totals = (k : ℕ) × (k < length (snapshots_in totals)) × (id ≡ first_in totals + k)

  -- this is the snapshot of the board of this id
  abbrev pub IsOn : (id : ℕ) → PageTotals N C H G → Taken → Type 0
  IsOn id totals taken = (k : ℕ) × (id ≡ first_in totals + k) × (slice_get (snapshots_in totals) k ≡ Some taken)

  -- of a page of so many boards, whose ids follow each other from this one on
  module _ (first boards : ℕ) where
    -- of each board, exactly what these recorders, of which all are there, have published on it
    pub record AreExact (recorders : List (PageRecorder N C H G)) (totals : PageTotals N C H G) : Type 0 where
      pub first_is : first_in totals ≡ first
      pub many : length (snapshots_in totals) ≡ boards
      pub each : (k : ℕ) (taken : Taken) → slice_get (snapshots_in totals) k ≡ Some taken → IsExactOn (first + k) recorders taken

    -- why that is not told: of a board, the first such, the recorder of a worker is not at its place; or on each board all are
    -- there, and there was no memory
    abbrev pub IsSettleFault : List (PageRecorder N C H G) → SettleFault → Type 0
    IsSettleFault recorders (NotAll id missing) = (k : ℕ) × (k < boards) × ((j : ℕ) → j < k → AreAll (first + j) recorders)
        × (id ≡ first + k) × IsMisplaced (first + k) recorders missing
    IsSettleFault recorders NoMemory = (j : ℕ) → j < boards → AreAll (first + j) recorders
