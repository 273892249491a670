use Rattle.std.proofs.Common.{◌≡◌, ◌++◌, map, All}
use Rattle.std.specs.Arc.{arc_value}
use Rattle.std.specs.Vec.Iter.{into_iter_items}
use Rattle.snapshot_update.specs.Workers.{IsWorkerOf}
use Rattle.page_crew.specs.Shared.{board_in, worker_in}
use Rattle.page_crew.proofs.opening.recorders_on.Given as goal

abbrev pub invariant-loop-worker : goal.invariant-loop-worker
invariant-loop-worker g l = record {
  of_board : All (IsWorkerOf (arc_value l.board)) (into_iter_items l.worker-iterator);
  boards : All (λ r. board_in r ≡ arc_value l.board) l.recorders.items;
  workers : map worker_in l.recorders.items ++ into_iter_items l.worker-iterator ≡ l.fn.workers.items;
}
