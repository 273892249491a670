use Rattle.std.proofs.Common.{rules, ◌<◌, refl, arith, inl, inr}
use Rattle.registry_state.specs.Replay.{slots}
use Rattle.page_crew.proofs.Further.{given_further, refused_further}
use Rattle.page_crew.proofs.Told.{told_further, untold_further}
use Rattle.page_crew.proofs.owner.PageCrew.ask_further.Goals as goal

pub returns-in-Ok-clause-given : goal.returns-in-Ok-clause-given
returns-in-Ok-clause-given g c =
    given_further c.args.self.now c.add_board.new.self c.ask.new.self c.in-Ok.ensures.grown c.args.family.number c.args.values.now
    c.args.kind c.args.slots c.ask.result c.ask.ensures.given

pub returns-in-Ok-clause-fault : goal.returns-in-Ok-clause-fault
returns-in-Ok-clause-fault g c =
    let more = c.if-slots-eq0.false in let is = c.requires.full.0 in
    let some : 0 < slots g.row.C g.row.H g.row.G c.args.kind = omega (arith, more, is) in
    refused_further c.args.self.now c.add_board.new.self c.ask.new.self c.in-Ok.ensures.grown c.args.family.number
    c.args.values.now
    c.args.kind c.args.slots c.requires.full c.in-Ok.ensures.few some c.ask.result c.ask.ensures.fault c.ask.ensures.leaves

pub returns-in-Err-NoMemory-clause-fault : goal.returns-in-Err-NoMemory-clause-fault
returns-in-Err-NoMemory-clause-fault g c =
    let more = c.if-slots-eq0.false in let is = c.requires.full.0 in
    let some : 0 < slots g.row.C g.row.H g.row.G c.args.kind = omega (arith, more, is) in
    inr (refl, search rules, some, inl c.in-Err-NoMemory.ensures.unchanged)

pub returns-in-Ok-clause-told : goal.returns-in-Ok-clause-told
returns-in-Ok-clause-told g c =
    told_further c.args.self.now c.add_board.new.self c.ask.new.self (record {
      grown = c.in-Ok.ensures.grown;
      told =
          c.in-Ok.ensures.told;
    })
    c.args.family.number c.args.values.now c.ask.result c.ask.ensures.told

pub returns-in-Ok-clause-untold : goal.returns-in-Ok-clause-untold
returns-in-Ok-clause-untold g c =
    untold_further c.args.self.now c.add_board.new.self c.ask.new.self (record {
      grown = c.in-Ok.ensures.grown;
      told =
          c.in-Ok.ensures.told;
    })
    c.args.family.number c.args.values.now c.ask.result c.ask.ensures.untold c.ask.ensures.leaves
