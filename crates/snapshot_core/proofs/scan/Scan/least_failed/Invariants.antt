use Rattle.std.proofs.Common.{◌≡◌, ◌-◌}
use Rattle.snapshot_core.specs.Scan.{least_failed_of}
use Rattle.snapshot_core.proofs.scan.Scan.least_failed.Given as goal

abbrev pub invariant-loop-k : goal.invariant-loop-k
invariant-loop-k l =
    least_failed_of l.self.opened l.self.whole l.self.found 0 (l.self.n - 1)
    ≡ least_failed_of l.self.opened l.self.whole l.self.found l.k (l.self.n - 1 - l.k)
