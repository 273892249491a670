use Rattle.std.proofs.Common.{◌≡◌, ◌*◌}
use Rattle.ledger_core.specs.Ops.{width}
use Rattle.register_rule.specs.Seats.{HasMember, table_of, members_of}
use Rattle.snapshot_scan.specs.Reading.{IsReadTo}
use Rattle.snapshot_scan.proofs.rows.read_row.Given as goal

abbrev pub invariant-loop-turn : goal.invariant-loop-turn
invariant-loop-turn g l = let bundle = g.S.ScanSeat.bundle in record {
  table : table_of (bundle l.seat) ≡ table_of (bundle l.fn.seat);
  leads : HasMember (members_of (bundle l.seat));
  read : IsReadTo (width g.row.C g.row.H g.row.G) l.place l.number (4 * l.turn) (members_of (bundle l.fn.seat))
      (members_of (bundle l.seat)) l.fn.words l.words l.fn.changed l.changed;
}
