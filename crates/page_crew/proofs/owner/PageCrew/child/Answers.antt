use Rattle.page_crew.proofs.InStep.{refused_after, in_step}
use Rattle.page_crew.proofs.owner.PageCrew.child.Goals as goal

pub returns-in-Err-clause-fault : goal.returns-in-Err-clause-fault
returns-in-Err-clause-fault g c =
    refused_after c.args.self.now c.give_child.new.self c.keep_in_step.new.self c.keep_in_step.ensures.unchanged
    c.args.family.number
    c.args.values.now c.in-Err.why c.in-Err.ensures.fault

pub returns-in-Err-clause-untold : goal.returns-in-Err-clause-untold
returns-in-Err-clause-untold g c =
    in_step c.args.self.now c.give_child.new.self c.keep_in_step.new.self c.keep_in_step.ensures.unchanged c.args.family.number
    c.parts_of-before.result c.parts_of-before.ensures c.keep_in_step.ensures.same c.keep_in_step.ensures.gone
    c.in-Err.ensures.untold
