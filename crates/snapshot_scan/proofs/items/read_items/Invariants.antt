use Rattle.std.proofs.Common.{◌≡◌, ◌<◌, ◌+◌, ◌≤◌, ℕ, take, get_or}
use Rattle.ledger_core.specs.Ops.{width}
use Rattle.register_rule.specs.Members.{led, scan_changed}
use Rattle.register_rule.specs.Seats.{HasMember, table_of, members_of}
use Rattle.snapshot_scan.specs.Shape.{read_all}
use Rattle.snapshot_scan.proofs.items.read_items.Given as goal

abbrev pub invariant-loop-k : goal.invariant-loop-k
invariant-loop-k g l = let bundle = g.S.ScanSeat.bundle in record {
  table : table_of (bundle l.seat) ≡ table_of (bundle l.fn.seat);
  some : HasMember (members_of (bundle l.seat));
  member : members_of (bundle l.seat) ≡ led
      (scan_changed (read_all (width g.row.C g.row.H g.row.G) l.place l.number l.from (take l.k l.words)))
      (members_of (bundle l.fn.seat));
  bounded : (k : ℕ) → k < l.k → l.from + k < width g.row.C g.row.H g.row.G → get_or l.words k 0 ≤ 281474976710655;
}
