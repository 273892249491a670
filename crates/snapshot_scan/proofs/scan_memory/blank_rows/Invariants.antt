use Rattle.std.proofs.Common.{◌≡◌, length}
use Rattle.snapshot_scan.specs.RememberedRows.{AreBlank}
use Rattle.snapshot_scan.proofs.scan_memory.blank_rows.Given as goal

abbrev pub invariant-loop-k : goal.invariant-loop-k
invariant-loop-k l = record {
  count : length l.remembered.items ≡ l._k;
  blank : AreBlank l.row l.remembered.items;
}
