use Rattle.std.proofs.Common.{◌≡◌, ◌+◌, ℕ, List}
use Rattle.std.specs.List.{All}
use Rattle.ledger_core.specs.Ops.{width}
use Rattle.register_rule.specs.declared.view.Member.{Member}
use Rattle.register_rule.specs.Seats.{HasMember, table_of, members_of}
use Rattle.snapshot_scan.specs.declared.remembered_row.RememberedRow.{RememberedRow}
use Rattle.snapshot_scan.specs.RememberedRows.{IsWide}
use Rattle.snapshot_scan.specs.Collecting.{HasOpened}
use Rattle.snapshot_scan.proofs.first_collect.open_places.Given as goal

abbrev pub invariant-loop-k : goal.invariant-loop-k
invariant-loop-k g l = let bundle = g.S.ScanSeat.bundle in let w : ℕ = width g.row.C g.row.H g.row.G in record {
  table : table_of (bundle l.seat) ≡ table_of (bundle l.fn.seat);
  leads : HasMember (members_of (bundle l.seat));
  wide : All (IsWide w) l.remembered;
  opened : (ms : List Member) (rows : List RememberedRow) → HasOpened w l.from ms rows
      (members_of (bundle l.fn.seat)) l.fn.remembered
      l.fn.opened l.fn.known
      → HasOpened w (l.from + l.k) ms rows (members_of (bundle l.seat)) l.remembered l.opened l.known;
}
