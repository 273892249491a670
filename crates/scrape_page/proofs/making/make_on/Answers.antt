use Rattle.std.proofs.Common.{◌≡◌, Some, slice_get, slice_set, IsSomeAnd, ap, ◌∙◌, arith, rules}
use Rattle.registry_state.specs.Replay.{Family}
use Rattle.registry_state.specs.Faults.{HasSlot, IsMissingChild}
use Rattle.registry_state.specs.Kept.{RegistryView}
use Rattle.registry_state.specs.declared.fault.ChildFault.TheVariants as Child
use Rattle.registry_state.proofs.Making.{there_at, at_some, some_within}
use Rattle.scrape_page.proofs.Listed.{made_missing, made_on, missing_only, written_back}
use Rattle.scrape_page.proofs.making.make_on.Goals as goal

pub returns-in-Ok-clause-made : goal.returns-in-Ok-clause-made
returns-in-Ok-clause-made g c =
    let C = g.row.C in let H = g.row.H in let G = g.row.G in
    let P : RegistryView g.row.S.Denot → Type 0 = λ (board : RegistryView g.row.S.Denot).
    IsSomeAnd (slice_get board.state.families c.args.part.family.number) (λ (it : Family). IsMissingChild it c.args.values.now
    × HasSlot C H G board.state.families it.desc.kind) in
    let there : slice_get c.args.boards.now.items c.args.part.board ≡ Some c.index_mut.result.now =
    there_at P c.args.boards.now.items c.args.part.board c.index_mut.result.now c.requires c.index_mut.ensures.value in
    made_on C H G c.args.boards.now.items c.args.part c.args.values.now c.in-Ok.handle c.index_mut.result.now
    c.child.new.self there
    (made_missing C H G c.index_mut.result.now c.child.new.self c.args.part.family.number c.args.values.now c.in-Ok.handle
    (at_some P c.args.boards.now.items c.args.part.board c.index_mut.result.now there c.requires) c.in-Ok.ensures.given)

pub index_mut-requires : goal.index_mut-requires
index_mut-requires g c =
    let P : RegistryView g.row.S.Denot → Type 0 = λ (board : RegistryView g.row.S.Denot).
    IsSomeAnd (slice_get board.state.families c.args.part.family.number) (λ (it : Family). IsMissingChild it c.args.values.now
    × HasSlot g.row.C g.row.H g.row.G board.state.families it.desc.kind) in
    let within = some_within P c.args.boards.now.items c.args.part.board c.requires in omega (arith, within)

pub returns-in-Ok-clause-inside : goal.returns-in-Ok-clause-inside
returns-in-Ok-clause-inside g c = c.in-Ok.ensures.inside

pub returns-in-Ok-clause-unchanged : goal.returns-in-Ok-clause-unchanged
returns-in-Ok-clause-unchanged g c = tt

pub returns-in-Err-NoMemory-clause-made : goal.returns-in-Err-NoMemory-clause-made
returns-in-Err-NoMemory-clause-made g c = tt

pub returns-in-Err-NoMemory-clause-inside : goal.returns-in-Err-NoMemory-clause-inside
returns-in-Err-NoMemory-clause-inside g c = tt

pub returns-in-Err-NoMemory-clause-unchanged : goal.returns-in-Err-NoMemory-clause-unchanged
returns-in-Err-NoMemory-clause-unchanged g c =
    let P : RegistryView g.row.S.Denot → Type 0 = λ (board : RegistryView g.row.S.Denot).
    IsSomeAnd (slice_get board.state.families c.args.part.family.number) (λ (it : Family). IsMissingChild it c.args.values.now
    × HasSlot g.row.C g.row.H g.row.G board.state.families it.desc.kind) in
    ap (slice_set c.args.boards.now.items c.args.part.board) c.in-Err-NoMemory.ensures.unchanged
    ∙ written_back c.args.boards.now.items c.args.part.board c.index_mut.result.now
    (there_at P c.args.boards.now.items c.args.part.board c.index_mut.result.now c.requires c.index_mut.ensures.value)

pub unreachable-requires : goal.unreachable-requires
unreachable-requires g c =
    let P : RegistryView g.row.S.Denot → Type 0 = λ (board : RegistryView g.row.S.Denot).
    IsSomeAnd (slice_get board.state.families c.args.part.family.number) (λ (it : Family). IsMissingChild it c.args.values.now
    × HasSlot g.row.C g.row.H g.row.G board.state.families it.desc.kind) in
    let there : slice_get c.args.boards.now.items c.args.part.board ≡ Some c.index_mut.result.now =
    there_at P c.args.boards.now.items c.args.part.board c.index_mut.result.now c.requires c.index_mut.ensures.value in
    let only : c.in-Err-NoSuchFamily.field-0 ≡ Child.NoMemory =
    missing_only g.row.C g.row.H g.row.G c.index_mut.result.now.state.families c.args.part.family.number c.args.values.now
    c.in-Err-NoSuchFamily.field-0
    (at_some P c.args.boards.now.items c.args.part.board c.index_mut.result.now there c.requires)
    c.in-Err-NoSuchFamily.ensures.fault in
    search rules
