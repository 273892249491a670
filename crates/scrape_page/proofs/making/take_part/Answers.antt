use Rattle.std.proofs.Common.{◌≡◌, ◌<◌, length, Some, slice_get, IsSomeAnd, refl, sym, subst, arith, rules}
use Rattle.std.proofs.lemmas.Result.{IfOk-from_err}
use Rattle.metric_desc.specs.Desc.{Descriptor}
use Rattle.registry_state.specs.Replay.{IsApart}
use Rattle.registry_state.specs.Kept.{RegistryView}
use Rattle.registry_state.proofs.Making.{there_at, at_some, some_within, on_err}
use Rattle.scrape_page.specs.declared.family.Part.{Part}
use Rattle.scrape_page.specs.Families.{PageFamily}
use Rattle.scrape_page.specs.Places.{part_at}
use Rattle.scrape_page.specs.Calls.{IsRegisteredOn}
use Rattle.scrape_page.proofs.Listed.{copied, part_more, part_still}
use Rattle.scrape_page.proofs.making.take_part.Goals as goal

pub register_on-requires : goal.register_on-requires
register_on-requires g c =
    let P : PageFamily → Type 0 = λ (it : PageFamily). IsSomeAnd (slice_get c.args.boards.now.items c.args.place)
    (λ (board : RegistryView g.row.S.Denot). (length board.state.families < 128) × IsApart board.state.families it.desc) in
    let family : PageFamily = c.index_mut-it.result.now in
    let there : slice_get c.args.families.now.items c.args.number ≡ Some family =
    there_at P c.args.families.now.items c.args.number family c.requires c.index_mut-it.ensures.value in
    let desc : c.in_ok-copy.field-0 ≡ family.desc =
    copied c.in_ok-copy.field-0 c.deref.result.now _ family c.in_ok-copy.ensures c.deref.ensures c.it.view_is in (
      search rules,
      subst (λ (d : Descriptor). IsSomeAnd (slice_get c.args.boards.now.items c.args.place)
          (λ (board : RegistryView g.row.S.Denot). (length board.state.families < 128) × IsApart board.state.families d))
          (sym desc) (at_some P c.args.families.now.items c.args.number family there c.requires),
    )

pub returns-clause-taken : goal.returns-clause-taken
returns-clause-taken g c =
    let P : PageFamily → Type 0 = λ (it : PageFamily). IsSomeAnd (slice_get c.args.boards.now.items c.args.place)
    (λ (board : RegistryView g.row.S.Denot). (length board.state.families < 128) × IsApart board.state.families it.desc) in
    let family : PageFamily = c.index_mut-it.result.now in
    let part : Part = part_at c.args.place c.in_ok-family.family.number in
    let desc : c.in_ok-copy.field-0 ≡ family.desc =
    copied c.in_ok-copy.field-0 c.deref.result.now _ family c.in_ok-copy.ensures c.deref.ensures c.it.view_is in
    record {
      family = family;
      it = there_at P c.args.families.now.items c.args.number family c.requires c.index_mut-it.ensures.value;
      registered = subst (λ (d : Descriptor). IsRegisteredOn c.args.boards.now.items c.register_on.new.boards.items c.args.place d
          c.in_ok-family.family.number) desc c.in_ok-family.ensures.registered;
      families = part_more c.args.families.now.items c.args.number _ family c.reserve.new.self.items
          c.push_reserved.new.self.items part c.it.view_is c.in_ok-reserve.ensures.items c.push_reserved.ensures.items;
    }

pub index_mut-it-requires : goal.index_mut-it-requires
index_mut-it-requires g c =
    let within = some_within _ c.args.families.now.items c.args.number c.requires in omega (arith, within)

pub push_reserved-requires : goal.push_reserved-requires
push_reserved-requires g c = let room = c.in_ok-reserve.ensures.ok in omega (arith, room)

pub returns-clause-place : goal.returns-clause-place
returns-clause-place g c = refl

pub returns-clause-unchanged : goal.returns-clause-unchanged
returns-clause-unchanged g c = tt

pub returns-in_err-reserve-clause-taken : goal.returns-in_err-reserve-clause-taken
returns-in_err-reserve-clause-taken g c = IfOk-from_err c.from_residual.result _ c.from_residual.ensures.0

pub returns-in_err-reserve-clause-place : goal.returns-in_err-reserve-clause-place
returns-in_err-reserve-clause-place g c = IfOk-from_err c.from_residual.result _ c.from_residual.ensures.0

pub returns-in_err-reserve-clause-unchanged : goal.returns-in_err-reserve-clause-unchanged
returns-in_err-reserve-clause-unchanged g c =
    let P : PageFamily → Type 0 = λ (it : PageFamily). IsSomeAnd (slice_get c.args.boards.now.items c.args.place)
    (λ (board : RegistryView g.row.S.Denot). (length board.state.families < 128) × IsApart board.state.families it.desc) in
    on_err c.from_residual.result _ (
      refl,
      part_still c.args.families.now.items c.args.number _ c.index_mut-it.result.now c.reserve.new.self.items
          (there_at P c.args.families.now.items c.args.number c.index_mut-it.result.now c.requires c.index_mut-it.ensures.value)
          c.it.view_is c.in_err-reserve.ensures.items,
    )

pub returns-in_err-copy-clause-taken : goal.returns-in_err-copy-clause-taken
returns-in_err-copy-clause-taken g c = IfOk-from_err c.from_residual-in_err-copy.result _ c.from_residual-in_err-copy.ensures.0

pub returns-in_err-copy-clause-place : goal.returns-in_err-copy-clause-place
returns-in_err-copy-clause-place g c = IfOk-from_err c.from_residual-in_err-copy.result _ c.from_residual-in_err-copy.ensures.0

pub returns-in_err-copy-clause-unchanged : goal.returns-in_err-copy-clause-unchanged
returns-in_err-copy-clause-unchanged g c =
    let P : PageFamily → Type 0 = λ (it : PageFamily). IsSomeAnd (slice_get c.args.boards.now.items c.args.place)
    (λ (board : RegistryView g.row.S.Denot). (length board.state.families < 128) × IsApart board.state.families it.desc) in
    on_err c.from_residual-in_err-copy.result _ (
      refl,
      part_still c.args.families.now.items c.args.number _ c.index_mut-it.result.now c.reserve.new.self.items
          (there_at P c.args.families.now.items c.args.number c.index_mut-it.result.now c.requires c.index_mut-it.ensures.value)
          c.it.view_is c.in_ok-reserve.ensures.items,
    )

pub returns-in_err-family-clause-taken : goal.returns-in_err-family-clause-taken
returns-in_err-family-clause-taken g c =
    IfOk-from_err c.from_residual-in_err-family.result _ c.from_residual-in_err-family.ensures.0

pub returns-in_err-family-clause-place : goal.returns-in_err-family-clause-place
returns-in_err-family-clause-place g c =
    IfOk-from_err c.from_residual-in_err-family.result _ c.from_residual-in_err-family.ensures.0

pub returns-in_err-family-clause-unchanged : goal.returns-in_err-family-clause-unchanged
returns-in_err-family-clause-unchanged g c =
    let P : PageFamily → Type 0 = λ (it : PageFamily). IsSomeAnd (slice_get c.args.boards.now.items c.args.place)
    (λ (board : RegistryView g.row.S.Denot). (length board.state.families < 128) × IsApart board.state.families it.desc) in
    on_err c.from_residual-in_err-family.result _ (
      c.in_err-family.ensures.unchanged,
      part_still c.args.families.now.items c.args.number _ c.index_mut-it.result.now c.reserve.new.self.items
          (there_at P c.args.families.now.items c.args.number c.index_mut-it.result.now c.requires c.index_mut-it.ensures.value)
          c.it.view_is c.in_ok-reserve.ensures.items,
    )
