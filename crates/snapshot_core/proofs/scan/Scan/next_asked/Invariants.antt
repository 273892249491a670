use Rattle.std.proofs.Common.{◌≡◌, ◌-◌}
use Rattle.snapshot_core.specs.Scan.{next_asked_of}
use Rattle.snapshot_core.proofs.scan.Scan.next_asked.Given as goal

abbrev pub invariant-loop-k : goal.invariant-loop-k
invariant-loop-k l =
    next_asked_of l.self.base l.self.found l.from (l.self.n - l.from)
    ≡ next_asked_of l.self.base l.self.found l.k (l.self.n - l.k)
