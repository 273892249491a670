use Rattle.snapshot_update.specs.Workers.{IsWorkerOf}
use Rattle.library_tests.proofs.tests.costs.hundred.Given as goal

abbrev pub invariant-loop-k : goal.invariant-loop-k
invariant-loop-k g l = IsWorkerOf l.board l.worker
