use Rattle.std.proofs.Common.{◌≡◌, ◌<◌, ℕ, get_or}
use Rattle.snapshot_scan.proofs.contended.first_moved.Given as goal

abbrev pub invariant-loop-worker : goal.invariant-loop-worker
invariant-loop-worker l = (k : ℕ) → k < l.worker → get_or l.first k 0 ≡ get_or l.last k 0
