use Rattle.std.proofs.Common.{take}
use Rattle.chain_law.specs.History.{vectors_of, IsHistory}
use Rattle.chain_law.proofs.history.history_of.Given as goal

abbrev pub invariant-loop-k : goal.invariant-loop-k
invariant-loop-k g l = IsHistory g.row.N (take l.k (vectors_of l.snapshots)) l.turns.items
