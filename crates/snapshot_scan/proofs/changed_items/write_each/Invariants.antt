use Rattle.std.proofs.Common.{◌≡◌, ◌<◌, ◌+◌, ℕ, get_or}
use Rattle.snapshot_scan.proofs.changed_items.write_each.Given as goal

abbrev pub invariant-loop-k : goal.invariant-loop-k
invariant-loop-k l = record {
  remembered : (q : ℕ) → q < l.first → get_or l.places q 0 ≡ get_or l.fn.places q 0;
  written : (q : ℕ) → q < l.k → get_or l.places (l.first + q) 0 ≡ get_or l.items q 0 + l.shift;
}
