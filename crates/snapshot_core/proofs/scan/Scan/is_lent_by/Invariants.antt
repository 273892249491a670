use Rattle.std.proofs.Common.{◌≡◌, ◌-◌}
use Rattle.snapshot_core.proofs.Loops.{above_from}
use Rattle.snapshot_core.proofs.scan.Scan.is_lent_by.Given as goal

abbrev pub invariant-loop-k : goal.invariant-loop-k
invariant-loop-k l = above_from l.self.floor l.vector 0 l.self.n ≡ above_from l.self.floor l.vector l.k (l.self.n - l.k)
