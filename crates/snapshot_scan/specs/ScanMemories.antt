-- What the memory of a scan says.
use Rattle.std.specs.Prelude.{ℕ, List, map}
use Rattle.register_rule.specs.declared.view.Answer.{Answer}
use Rattle.register_rule.specs.declared.view.Version.{Version}
use Rattle.register_rule.specs.declared.view.ScanLog.{ScanLog}
use Rattle.ledger_core.specs.Ops.{width}
use Rattle.snapshot_scan.specs.declared.scan_end.ScanEnd.{ScanEnd}
use Rattle.snapshot_scan.specs.declared.scan_end.ScanEnd.TheVariants.{Direct, Lent, GaveUp}
use Rattle.snapshot_scan.specs.declared.scan_memory.ScanMemory.{ScanMemory}
use Rattle.snapshot_scan.specs.ChangedItems.{ChangedView}
use Rattle.snapshot_scan.specs.RememberedRows.{version_of}
use Rattle.register_rule.specs.ScanSteps.{lent_in}
use Rattle.snapshot_scan.specs.Scanned.{IsIdle}

-- the scan ended with a view
abbrev pub HasView : ScanEnd → Type 0
HasView (Direct quiet) = Unit {0}
HasView Lent = Unit {0}
HasView GaveUp = ⊥

module _ {N C H G : ℕ} where
  -- the rows that are remembered
  abbrev pub rows_of : ScanMemory N C H G → List Version
  rows_of m = map version_of m.remembered.items

  -- no scan is in progress, and the rows that are remembered are those of the view
  abbrev pub IsReady : ScanLog → ScanMemory N C H G → Type 0
  IsReady c m = IsIdle c m.remembered.items

  -- the sums of the remembered rows
  abbrev pub totals_in : ScanMemory N C H G → List ℕ
  totals_in m = m.totals.items

  -- the numbers that the first collect of the last try found
  abbrev pub opened_in : ScanMemory N C H G → List ℕ
  opened_in m = m.opened.items

  -- the numbers that the second collect of the last try found
  abbrev pub found_in : ScanMemory N C H G → List ℕ
  found_in m = m.found.items

  -- where the last scan may have changed the sums
  abbrev pub changed_totals_in : ScanMemory N C H G → ChangedView
  changed_totals_in m = m.changed_totals

  -- the answer of the scan that ended so: its own numbers with the sums of the rows, or the view that was lent; after a scan that
  -- gave up these are no answer, and what is stored of them stands under the flag 0
  abbrev pub answer_of : ScanMemory N C H G → ScanEnd → Answer
  answer_of m (Direct quiet) = record { vector = m.opened.items; totals = m.totals.items }
  answer_of m Lent = lent_in N (width C H G) m.lent.items
  answer_of m GaveUp = record { vector = m.opened.items; totals = m.totals.items }
