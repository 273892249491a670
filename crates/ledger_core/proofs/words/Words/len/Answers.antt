use Rattle.ledger_core.proofs.Places.{row-length}
use Rattle.ledger_core.proofs.words.Words.len.Goals as goal

pub returns-clause-within : goal.returns-clause-within
returns-clause-within g c = rw (← c.self.view_is) (row-length g.row.C g.row.H g.row.G _ _ _ c.self.invariant)
