use Rattle.snapshot_update.specs.Workers.{IsWorkerOf}
use Rattle.library_tests.proofs.tests.hands_on.count.Given as goal

abbrev pub invariant-loop-k : goal.invariant-loop-k
invariant-loop-k l = IsWorkerOf l.board l.worker
