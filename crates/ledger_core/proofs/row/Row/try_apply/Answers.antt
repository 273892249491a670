use Rattle.ledger_core.proofs.Legal.{legal_after}
use Rattle.ledger_core.proofs.row.Row.try_apply.Goals as goal

pub invariant_of-self : goal.invariant_of-self
invariant_of-self g c =
    legal_after g.row.C g.row.H g.row.G c.self.inside.words c.try_apply.new.self c.args.ops.now c.try_apply.result
    c.try_apply.ensures.ok c.try_apply.ensures.accepted c.try_apply.ensures.unchanged c.self.invariant

pub returns-clause-legal : goal.returns-clause-legal
returns-clause-legal g c = invariant_of-self g c
