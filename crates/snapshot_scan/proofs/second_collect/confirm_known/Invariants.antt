use Rattle.std.proofs.Common.{◌≡◌, ◌*◌, true}
use Rattle.register_rule.specs.Seats.{HasMember, table_of, members_of}
use Rattle.snapshot_scan.specs.Collecting.{HasConfirmed}
use Rattle.snapshot_scan.proofs.second_collect.confirm_known.Given as goal

abbrev pub invariant-loop-turn : goal.invariant-loop-turn
invariant-loop-turn g l = let bundle = g.S.ScanSeat.bundle in record {
  table : table_of (bundle l.seat) ≡ table_of (bundle l.fn.seat);
  leads : HasMember (members_of (bundle l.seat));
  confirmed : HasConfirmed g.row.N g.row.C g.row.H g.row.G (4 * l.turn) (members_of (bundle l.fn.seat)) l.remembered l.opened
      (members_of (bundle l.seat)) l.opened true;
}
