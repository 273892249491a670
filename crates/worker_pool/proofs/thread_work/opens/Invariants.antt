use Rattle.std.proofs.Common.{◌≡◌, true}
use Rattle.worker_pool.proofs.thread_work.opens.Given as goal

abbrev pub invariant-loop : goal.invariant-loop
invariant-loop g l = (g.W.Way.ALWAYS_OPEN ≡ true → l.counter ≡ 0)
