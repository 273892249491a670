use Rattle.std.proofs.Common.{◌≡◌, ◌≤◌, ◌+◌, ◌++◌, length, take, drop}
use Rattle.std.specs.VecDeque.{deque_capacity}
use Rattle.ledger_core.specs.Ops.{width}
use Rattle.scrape_history.specs.Increases.{Adds}
use Rattle.scrape_history.proofs.increase.note_numbers.Given as goal

abbrev pub invariant-loop-worker : goal.invariant-loop-worker
invariant-loop-worker g l = record {
  added : Adds g.row.N (width g.row.C g.row.H g.row.G) l.before
      (record l.before { vector = take l.worker l.after.vector ++ drop l.worker l.before.vector }) l.initial.increases.items
      l.increases.items;
  few : length l.increases.items ≤ length l.initial.increases.items + l.worker;
  room : deque_capacity l.increases ≡ deque_capacity l.initial.increases;
}
