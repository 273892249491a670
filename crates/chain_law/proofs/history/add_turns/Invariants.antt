use Rattle.chain_law.specs.History.{IsGrown}
use Rattle.chain_law.proofs.history.add_turns.Given as goal

abbrev pub invariant-loop-worker : goal.invariant-loop-worker
invariant-loop-worker l = IsGrown l.worker l.from l.to l.fn.turns.items l.turns.items
