use Rattle.std.proofs.Common.{take}
use Rattle.ledger_core.specs.Row.{Adds}
use Rattle.ledger_core.proofs.words.Words.take_back.Given as goal

abbrev pub invariant-loop-op : goal.invariant-loop-op
invariant-loop-op g l = Adds g.row.C g.row.H l.self (take l.op-index l.ops) l.initial.self
