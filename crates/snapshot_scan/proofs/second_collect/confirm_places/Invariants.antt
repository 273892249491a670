use Rattle.std.proofs.Common.{◌≡◌, ◌+◌, true, List, length}
use Rattle.register_rule.specs.declared.view.Member.{Member}
use Rattle.register_rule.specs.Seats.{HasMember, table_of, members_of}
use Rattle.snapshot_scan.specs.declared.remembered_row.RememberedRow.{RememberedRow}
use Rattle.snapshot_scan.specs.Collecting.{HasConfirmed}
use Rattle.snapshot_scan.proofs.second_collect.confirm_places.Given as goal

abbrev pub invariant-loop-k : goal.invariant-loop-k
invariant-loop-k g l = let bundle = g.S.ScanSeat.bundle in record {
  table : table_of (bundle l.seat) ≡ table_of (bundle l.fn.seat);
  leads : HasMember (members_of (bundle l.seat));
  confirmed : (ms : List Member) (gs : List RememberedRow) → length gs ≡ g.row.N
      → HasConfirmed g.row.N g.row.C g.row.H g.row.G l.from ms gs l.opened (members_of (bundle l.fn.seat)) l.opened true
      → HasConfirmed g.row.N g.row.C g.row.H g.row.G (l.from + l.k) ms gs l.opened (members_of (bundle l.seat)) l.opened true;
}
