use Rattle.std.proofs.Common.{◌≡◌, ◌∙◌}
use Rattle.std.specs.Arc.{arc_value}
use Rattle.std.specs.Vec.Iter.{into_iter_items}
use Rattle.snapshot_update.specs.Workers.{IsWorkerOf}
use Rattle.page_crew.specs.Shared.{board_in, worker_in}
use Rattle.snapshot_update.proofs.Seating.{next_all, all_more, one_over}
use Rattle.page_crew.proofs.opening.recorders_on.Goals as goal

pub loop-worker-preserved : goal.loop-worker-preserved
loop-worker-preserved g c =
    let inv = c.loop-worker.invariant in
    let step = c.in-Some.ensures.steps.0 in
    let rest = into_iter_items c.next.new.self in
    record {
      of_board = (next_all (IsWorkerOf (arc_value c.args.board.now))
          (into_iter_items c.loop-worker.worker-iterator) rest c.in-Some.worker step
          inv.of_board).1;
      boards = all_more (λ r. board_in r ≡ arc_value c.args.board.now) c.loop-worker.recorders.items c.push.new.self.items
          c.new.result
          c.in_ok-push.ensures.items inv.boards (c.new.ensures.board ∙ c.in_ok-try_clone.ensures);
      workers = one_over worker_in c.loop-worker.recorders.items c.push.new.self.items c.new.result
          (into_iter_items c.loop-worker.worker-iterator) rest c.in-Some.worker c.in_ok-push.ensures.items step
          c.new.ensures.worker ∙ inv.workers;
    }
