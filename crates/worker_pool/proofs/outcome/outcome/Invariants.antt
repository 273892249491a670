use Rattle.std.proofs.Common.{◌≡◌, ◌+◌, ◌≤◌, length, vec_len}
use Rattle.std.specs.Prelude.{vec_capacity}
use Rattle.std.specs.Vec.Iter.{into_iter_items, into_iter_len}
use Rattle.worker_pool.proofs.Gathered.{AreGathered}
use Rattle.worker_pool.proofs.outcome.outcome.Given as goal

abbrev pub invariant-loop-end : goal.invariant-loop-end
invariant-loop-end g l = record {
  gathered : AreGathered l.fn.ends.items (into_iter_items l.end-iterator) l.done.items l.told;
  count : into_iter_len l.end-iterator ≡ length (into_iter_items l.end-iterator);
  room : vec_len l.done + into_iter_len l.end-iterator ≤ vec_capacity l.done;
}
