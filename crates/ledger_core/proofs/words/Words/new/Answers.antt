use Rattle.ledger_core.proofs.Places.{zeros, shape_zeros}
use Rattle.ledger_core.proofs.words.Words.new.Goals as goal

pub invariant_of-result : goal.invariant_of-result
invariant_of-result g c = shape_zeros g.row.C g.row.H g.row.G

pub returns : goal.returns
returns g c = zeros g.row.C g.row.H g.row.G
