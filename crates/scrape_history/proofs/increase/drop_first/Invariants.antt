use Rattle.std.proofs.Common.{◌≡◌, drop}
use Rattle.std.specs.VecDeque.{deque_capacity}
use Rattle.scrape_history.proofs.increase.drop_first.Given as goal

abbrev pub invariant-loop : goal.invariant-loop
invariant-loop l = record {
  rest : l.increases.items ≡ drop l.counter l.initial.increases.items;
  room : deque_capacity l.increases ≡ deque_capacity l.initial.increases;
}
