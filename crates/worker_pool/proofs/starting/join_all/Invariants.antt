use Rattle.std.proofs.Common.{◌≡◌, ◌+◌, ◌≤◌, length, vec_len}
use Rattle.std.specs.Prelude.{vec_capacity}
use Rattle.std.specs.Vec.Iter.{into_iter_items, into_iter_len}
use Rattle.worker_pool.proofs.Joined.{HaveJoined}
use Rattle.worker_pool.proofs.starting.join_all.Given as goal

abbrev pub invariant-loop-thread : goal.invariant-loop-thread
invariant-loop-thread g l = record {
  joined : HaveJoined g.Q.JobLists.lists l.fn.threads.items (into_iter_items l.thread-iterator) l.ends.items;
  count : into_iter_len l.thread-iterator ≡ length (into_iter_items l.thread-iterator);
  room : vec_len l.ends + into_iter_len l.thread-iterator ≤ vec_capacity l.ends;
}
