use Rattle.std.proofs.Common.{◌≡◌, ◌+◌, ℕ, List}
use Rattle.ledger_core.specs.Ops.{width}
use Rattle.register_rule.specs.declared.view.Member.{Member}
use Rattle.register_rule.specs.Seats.{HasMember, table_of, members_of}
use Rattle.snapshot_scan.specs.ChangedItems.{ChangedView}
use Rattle.snapshot_scan.specs.Reading.{IsReadTo}
use Rattle.snapshot_scan.proofs.rows.read_words.Given as goal

abbrev pub invariant-loop-k : goal.invariant-loop-k
invariant-loop-k g l = let bundle = g.S.ScanSeat.bundle in let w : ℕ = width g.row.C g.row.H g.row.G in record {
  table : table_of (bundle l.seat) ≡ table_of (bundle l.fn.seat);
  leads : HasMember (members_of (bundle l.seat));
  read : (ms : List Member) (row : List ℕ) (listed : ChangedView)
      → IsReadTo w l.place l.number l.from ms (members_of (bundle l.fn.seat)) row l.fn.words listed l.fn.changed
      → IsReadTo w l.place l.number (l.from + l.k) ms (members_of (bundle l.seat)) row l.words listed l.changed;
}
