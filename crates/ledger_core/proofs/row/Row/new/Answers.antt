use Rattle.ledger_core.specs.Ops.{width}
use Rattle.ledger_core.proofs.Legal.{legal_zeros}
use Rattle.ledger_core.proofs.row.Row.new.Goals as goal

pub invariant_of-result : goal.invariant_of-result
invariant_of-result g c = rw c.new.ensures (legal_zeros g.row.C g.row.H (width g.row.C g.row.H g.row.G))

pub returns-clause-legal : goal.returns-clause-legal
returns-clause-legal g c = rw c.new.ensures (legal_zeros g.row.C g.row.H (width g.row.C g.row.H g.row.G))
