use Rattle.std.proofs.Common.{◌≡◌, ℕ, ◌+◌, ◌≤◌, length}
use lib.ListN.{get_elem?}
use Rattle.register_rule.specs.Seats.{table_of}
use Rattle.snapshot_scan.specs.Readers.{members_with, bundle_of, scan_by, index_of}
use Rattle.snapshot_scan.specs.Lent.{HasSeenMore}
use Rattle.chain_law.specs.Lent.{AreLentFrom}
use Rattle.chain_law.proofs.gathering.lend_all.Given as goal

abbrev pub invariant-loop-k : goal.invariant-loop-k
invariant-loop-k g l = record {
  table : table_of (bundle_of l.reader) ≡ table_of (bundle_of l.fn.reader);
  index : index_of l.reader ≡ index_of l.fn.reader;
  long : length (members_with l.reader) ≡ length (members_with l.fn.reader) + l.k;
  scan : HasSeenMore (scan_by l.fn.reader) (scan_by l.reader);
  lent : AreLentFrom (length (members_with l.fn.reader)) l.k l.fn.workers l.workers l.reader;
  others : (p : ℕ) → l.k ≤ p → get_elem? l.workers p ≡ get_elem? l.fn.workers p;
}
