use Rattle.page_crew.proofs.Further.{given_then, refused_then, was_full}
use Rattle.page_crew.proofs.Told.{told_then, untold_then}
use Rattle.page_crew.proofs.owner.PageCrew.give_child.Goals as goal

pub returns-in-Err-Full-clause-given : goal.returns-in-Err-Full-clause-given
returns-in-Err-Full-clause-given g c =
    let full = was_full c.args.self.now c.ask.new.self c.args.family.number c.args.values.now _ c.in-Err-Full.kind
    c.in-Err-Full.slots
    c.in-Err-Full.field-0-is c.in-Err-Full.ensures.leaves c.in-Err-Full.ensures.fault in
    given_then c.args.self.now c.ask.new.self c.ask_further.new.self full.0 c.args.family.number c.args.values.now
    c.in-Err-Full.kind
    c.in-Err-Full.slots full.1 c.ask_further.result c.ask_further.ensures.given

pub returns-in-Err-Full-clause-fault : goal.returns-in-Err-Full-clause-fault
returns-in-Err-Full-clause-fault g c =
    let full = was_full c.args.self.now c.ask.new.self c.args.family.number c.args.values.now _ c.in-Err-Full.kind
    c.in-Err-Full.slots
    c.in-Err-Full.field-0-is c.in-Err-Full.ensures.leaves c.in-Err-Full.ensures.fault in
    refused_then c.args.self.now c.ask.new.self c.ask_further.new.self full.0 c.args.family.number c.args.values.now
    c.in-Err-Full.kind
    c.in-Err-Full.slots full.1 c.ask_further.result c.ask_further.ensures.fault

pub returns-in-Err-Full-clause-told : goal.returns-in-Err-Full-clause-told
returns-in-Err-Full-clause-told g c =
    let full = was_full c.args.self.now c.ask.new.self c.args.family.number c.args.values.now _ c.in-Err-Full.kind
    c.in-Err-Full.slots
    c.in-Err-Full.field-0-is c.in-Err-Full.ensures.leaves c.in-Err-Full.ensures.fault in
    told_then c.args.self.now c.ask.new.self full.0 c.in-Err-Full.ensures.untold c.ask_further.new.self c.args.family.number
    c.args.values.now c.ask_further.result c.ask_further.ensures.told

pub returns-in-Err-Full-clause-untold : goal.returns-in-Err-Full-clause-untold
returns-in-Err-Full-clause-untold g c =
    let full = was_full c.args.self.now c.ask.new.self c.args.family.number c.args.values.now _ c.in-Err-Full.kind
    c.in-Err-Full.slots
    c.in-Err-Full.field-0-is c.in-Err-Full.ensures.leaves c.in-Err-Full.ensures.fault in
    untold_then c.args.self.now c.ask.new.self full.0 c.in-Err-Full.ensures.untold c.ask_further.new.self c.args.family.number
    c.args.values.now c.ask_further.result c.ask_further.ensures.untold
