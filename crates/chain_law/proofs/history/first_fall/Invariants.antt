use Rattle.chain_law.specs.History.{vectors_of, AreRising}
use Rattle.chain_law.proofs.history.first_fall.Given as goal

abbrev pub invariant-loop-b : goal.invariant-loop-b
invariant-loop-b g l = AreRising l.b (vectors_of l.snapshots)
