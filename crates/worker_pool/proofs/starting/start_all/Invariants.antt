use Rattle.std.proofs.Common.{◌≡◌, ◌+◌, ◌≤◌, length, drop}
use Rattle.std.specs.Prelude.{vec_capacity}
use Rattle.std.specs.Vec.Iter.{into_iter_items, into_iter_len}
use Rattle.worker_pool.specs.Pledges.{ArePledged}
use Rattle.worker_pool.proofs.starting.start_all.Given as goal

abbrev pub invariant-loop-worker : goal.invariant-loop-worker
invariant-loop-worker g l = record {
  rest : into_iter_items l.worker-iterator ≡ drop l.place l.fn.workers.items;
  count : l.place + into_iter_len l.worker-iterator ≡ length l.fn.workers.items;
  many : length l.threads.items ≡ l.place;
  room : length l.fn.workers.items ≤ vec_capacity l.threads;
  pledged : ArePledged g.Q.JobLists.lists g.W.Way.ALWAYS_OPEN l.board (g.Q.JobLists.lists l.lists) l.fn.workers.items
      l.threads.items;
}
