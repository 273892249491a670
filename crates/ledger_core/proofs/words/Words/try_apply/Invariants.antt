use Rattle.std.proofs.Common.{take, slice_index}
use Rattle.ledger_core.specs.Row.{Accepts, Adds}
use Rattle.ledger_core.proofs.words.Words.try_apply.Given as goal

abbrev pub invariant-loop-at : goal.invariant-loop-at
invariant-loop-at g l = record {
  adds : Adds g.row.C g.row.H l.initial.self (take l.at l.ops) l.self;
  accepts : Accepts g.row.C g.row.H g.row.G (slice_index l.initial.self) (take l.at l.ops);
}
