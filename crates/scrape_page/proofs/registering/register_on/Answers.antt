use Rattle.std.proofs.Common.{◌≡◌, ◌<◌, length, Some, slice_get, slice_set, ap, ◌∙◌, arith, rules}
use Rattle.registry_state.specs.Kept.{RegistryView}
use Rattle.registry_state.specs.Replay.{IsApart}
use Rattle.registry_state.specs.declared.fault.RegisterFault.TheVariants as Register
use Rattle.registry_state.proofs.Making.{there_at, at_some, some_within}
use Rattle.scrape_page.proofs.Listed.{refused_only, registered_on, written_back}
use Rattle.scrape_page.proofs.registering.register_on.Goals as goal

pub unreachable-requires : goal.unreachable-requires
unreachable-requires g c =
    let P : RegistryView g.row.S.Denot → Type 0 = λ (board : RegistryView g.row.S.Denot). (length board.state.families < 128)
    × IsApart board.state.families c.args.desc in
    let there : slice_get c.args.boards.now.items c.args.place ≡ Some c.index_mut.result.now =
    there_at P c.args.boards.now.items c.args.place c.index_mut.result.now c.requires c.index_mut.ensures.value in
    let may : P c.index_mut.result.now = at_some P c.args.boards.now.items c.args.place c.index_mut.result.now there c.requires in
    let only : c.in-Err-Clash.field-0 ≡ Register.NoMemory =
    refused_only c.index_mut.result.now.state.families c.args.desc c.in-Err-Clash.field-0 may.0 may.1
    c.in-Err-Clash.ensures.fault in
    search rules

pub returns-in-Ok-clause-registered : goal.returns-in-Ok-clause-registered
returns-in-Ok-clause-registered g c =
    let P : RegistryView g.row.S.Denot → Type 0 = λ (board : RegistryView g.row.S.Denot). (length board.state.families < 128)
    × IsApart board.state.families c.args.desc in
    registered_on c.args.boards.now.items c.args.place c.args.desc c.index_mut.result.now c.register.new.self
    c.in-Ok.family.number
    (there_at P c.args.boards.now.items c.args.place c.index_mut.result.now c.requires c.index_mut.ensures.value)
    c.in-Ok.ensures.number c.in-Ok.ensures.registered

pub index_mut-requires : goal.index_mut-requires
index_mut-requires g c =
    let P : RegistryView g.row.S.Denot → Type 0 = λ (board : RegistryView g.row.S.Denot). (length board.state.families < 128)
    × IsApart board.state.families c.args.desc in
    let within = some_within P c.args.boards.now.items c.args.place c.requires in omega (arith, within)

pub returns-in-Ok-clause-unchanged : goal.returns-in-Ok-clause-unchanged
returns-in-Ok-clause-unchanged g c = tt

pub returns-in-Err-NoMemory-clause-registered : goal.returns-in-Err-NoMemory-clause-registered
returns-in-Err-NoMemory-clause-registered g c = tt

pub returns-in-Err-NoMemory-clause-unchanged : goal.returns-in-Err-NoMemory-clause-unchanged
returns-in-Err-NoMemory-clause-unchanged g c =
    let P : RegistryView g.row.S.Denot → Type 0 = λ (board : RegistryView g.row.S.Denot). (length board.state.families < 128)
    × IsApart board.state.families c.args.desc in
    ap (slice_set c.args.boards.now.items c.args.place) c.in-Err-NoMemory.ensures.unchanged
    ∙ written_back c.args.boards.now.items c.args.place c.index_mut.result.now
    (there_at P c.args.boards.now.items c.args.place c.index_mut.result.now c.requires c.index_mut.ensures.value)
