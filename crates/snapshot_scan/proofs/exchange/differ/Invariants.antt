use Rattle.std.proofs.Common.{◌≡◌, ◌<◌, ◌+◌, ℕ, get_or}
use Rattle.snapshot_scan.proofs.exchange.differ.Given as goal

abbrev pub invariant-loop-k : goal.invariant-loop-k
invariant-loop-k l = l.bits ≡ 0 → (j : ℕ) → j < l.k → get_or l.old (l.from + j) 0 ≡ get_or l.new (l.from + j) 0
