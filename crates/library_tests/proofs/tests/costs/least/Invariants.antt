use Rattle.snapshot_update.specs.Workers.{IsWorkerOf}
use Rattle.library_tests.proofs.tests.costs.least.Given as goal

abbrev pub invariant-loop-round : goal.invariant-loop-round
invariant-loop-round g l = IsWorkerOf l.board l.worker
