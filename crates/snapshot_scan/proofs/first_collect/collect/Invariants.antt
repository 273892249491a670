use Rattle.std.proofs.Common.{◌≡◌, ◌≤◌, ◌*◌, ℕ}
use Rattle.std.specs.List.{All}
use Rattle.segment_layout.specs.Layout.{depth}
use Rattle.ledger_core.specs.Ops.{width}
use Rattle.register_rule.specs.Seats.{HasMember, table_of, members_of}
use Rattle.snapshot_scan.specs.RememberedRows.{IsWide}
use Rattle.snapshot_scan.specs.Collecting.{HasOpened}
use Rattle.snapshot_scan.proofs.first_collect.collect.Given as goal

abbrev pub invariant-loop-turn : goal.invariant-loop-turn
invariant-loop-turn g l = let bundle = g.S.ScanSeat.bundle in let w : ℕ = width g.row.C g.row.H g.row.G in record {
  table : table_of (bundle l.seat) ≡ table_of (bundle l.fn.seat);
  leads : HasMember (members_of (bundle l.seat));
  wide : All (IsWide w) l.remembered;
  deep : depth g.row.N w ≤ 2529;
  opened : HasOpened w (4 * l.turn) (members_of (bundle l.fn.seat)) l.fn.remembered
      (members_of (bundle l.seat)) l.remembered l.opened
      l.known;
}
