use Rattle.std.proofs.Common.{◌≡◌, ◌≤◌, ◌+◌, ◌++◌, length, take, drop}
use Rattle.std.specs.VecDeque.{deque_capacity}
use Rattle.ledger_core.specs.Ops.{width}
use Rattle.scrape_history.specs.Increases.{Adds}
use Rattle.scrape_history.proofs.increase.note_totals.Given as goal

abbrev pub invariant-loop-word : goal.invariant-loop-word
invariant-loop-word g l = record {
  added : Adds g.row.N (width g.row.C g.row.H g.row.G) (record l.before { vector = l.after.vector })
      (record l.after { totals = take l.word l.after.totals ++ drop l.word l.before.totals }) l.initial.increases.items
      l.increases.items;
  few : length l.increases.items ≤ length l.initial.increases.items + l.word;
  room : deque_capacity l.increases ≡ deque_capacity l.initial.increases;
}
