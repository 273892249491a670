use Rattle.snapshot_update.specs.Workers.{IsWorkerOf}
use Rattle.library_tests.proofs.tests.hushes.least_times.Given as goal

abbrev pub invariant-loop-turn : goal.invariant-loop-turn
invariant-loop-turn g l = IsWorkerOf l.board l.worker
