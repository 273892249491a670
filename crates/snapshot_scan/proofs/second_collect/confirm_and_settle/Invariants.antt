use Rattle.std.proofs.Common.{◌≡◌, ◌<◌, ◌≤◌, ◌==◌, cond, ℕ, length, take, get_or}
use mathlib.Core.Option.{some}
use lib.ListN.{get_elem?}
use Rattle.ledger_core.specs.Ops.{width}
use Rattle.register_rule.specs.ScanSteps.{ended}
use Rattle.register_rule.specs.Seats.{MayScan, table_of, members_of}
use Rattle.snapshot_scan.specs.declared.remembered_row.RememberedRow.{RememberedRow}
use Rattle.snapshot_scan.specs.Shape.{scan_of, with_scan, IsRuled}
use Rattle.snapshot_scan.specs.ChangedItems.{ListsChanges}
use Rattle.snapshot_scan.specs.RememberedRows.{AreWide, AreTotals, settling}
use Rattle.snapshot_scan.proofs.second_collect.confirm_and_settle.Given as goal

abbrev pub invariant-loop-place : goal.invariant-loop-place
invariant-loop-place g l = let bundle = g.S.ScanSeat.bundle in let ms = members_of (bundle l.fn.seat) in
    let w : ℕ = width g.row.C g.row.H g.row.G in record {
      table : table_of (bundle l.seat) ≡ table_of (bundle l.fn.seat);
      may : MayScan l.board (bundle l.seat);
      few : length l.remembered ≡ g.row.N;
      ruled : 0 < l.place → IsRuled g.row.N g.row.C g.row.H g.row.G (bundle l.seat);
      wide : AreWide w l.remembered;
      totals : AreTotals w l.remembered l.totals;
      view : members_of (bundle l.seat) ≡ with_scan
          (cond (l.place == g.row.N) (ended g.row.N w (settling l.opened (take l.place l.found) l.remembered (scan_of ms)))
          (settling l.opened (take l.place l.found) l.remembered (scan_of ms))) ms;
      moves : ListsChanges w l.fn.totals l.totals l.fn.changed_totals l.changed_totals;
      risen : (q : ℕ) → q < l.place → get_or l.opened q 0 ≤ get_or l.found q 0;
      held : (q : ℕ) (x : RememberedRow) → q < l.place → get_elem? l.remembered q ≡ some x → get_or l.opened q 0
          ≡ get_or l.found q 0
          → x.number ≡ get_or l.opened q 0;
    }
