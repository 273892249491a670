use Rattle.std.proofs.Common.{length, refl, arith, rules}
use Rattle.std.specs.Prelude.{is_ok}
use Rattle.std.proofs.lemmas.Result.{IfOk-from_err}
use Rattle.registry_state.proofs.Making.{on_err}
use Rattle.scrape_page.specs.Places.{part_at}
use Rattle.scrape_page.proofs.Listed.{family_more, put_at}
use Rattle.scrape_page.proofs.registering.push_registered.Goals as goal

pub returns-in_err-copy-clause-registered : goal.returns-in_err-copy-clause-registered
returns-in_err-copy-clause-registered g c = IfOk-from_err c.from_residual.result _ c.from_residual.ensures.0

pub returns-in_err-copy-clause-placed : goal.returns-in_err-copy-clause-placed
returns-in_err-copy-clause-placed g c = IfOk-from_err c.from_residual.result _ c.from_residual.ensures.0

pub returns-in_err-copy-clause-unchanged : goal.returns-in_err-copy-clause-unchanged
returns-in_err-copy-clause-unchanged g c = on_err c.from_residual.result _ (refl, refl, refl)

pub returns-in_err-kept-clause-registered : goal.returns-in_err-kept-clause-registered
returns-in_err-kept-clause-registered g c =
    IfOk-from_err c.from_residual-in_err-kept.result _ c.from_residual-in_err-kept.ensures.0

pub returns-in_err-kept-clause-placed : goal.returns-in_err-kept-clause-placed
returns-in_err-kept-clause-placed g c = IfOk-from_err c.from_residual-in_err-kept.result _ c.from_residual-in_err-kept.ensures.0

pub returns-in_err-kept-clause-unchanged : goal.returns-in_err-kept-clause-unchanged
returns-in_err-kept-clause-unchanged g c = on_err c.from_residual-in_err-kept.result _ (refl, refl, refl)

pub returns-in_err-parts-clause-registered : goal.returns-in_err-parts-clause-registered
returns-in_err-parts-clause-registered g c =
    IfOk-from_err c.from_residual-in_err-parts.result _ c.from_residual-in_err-parts.ensures.0

pub returns-in_err-parts-clause-placed : goal.returns-in_err-parts-clause-placed
returns-in_err-parts-clause-placed g c =
    IfOk-from_err c.from_residual-in_err-parts.result _ c.from_residual-in_err-parts.ensures.0

pub returns-in_err-parts-clause-unchanged : goal.returns-in_err-parts-clause-unchanged
returns-in_err-parts-clause-unchanged g c = on_err c.from_residual-in_err-parts.result _ (refl, refl, refl)

pub returns-in_err-reserve-clause-registered : goal.returns-in_err-reserve-clause-registered
returns-in_err-reserve-clause-registered g c =
    IfOk-from_err c.from_residual-in_err-reserve.result _ c.from_residual-in_err-reserve.ensures.0

pub returns-in_err-reserve-clause-placed : goal.returns-in_err-reserve-clause-placed
returns-in_err-reserve-clause-placed g c =
    IfOk-from_err c.from_residual-in_err-reserve.result _ c.from_residual-in_err-reserve.ensures.0

pub returns-in_err-reserve-clause-unchanged : goal.returns-in_err-reserve-clause-unchanged
returns-in_err-reserve-clause-unchanged g c =
    on_err c.from_residual-in_err-reserve.result _ (refl, c.in_err-reserve.ensures.items, refl)

pub returns-in_err-reserve-2-clause-registered : goal.returns-in_err-reserve-2-clause-registered
returns-in_err-reserve-2-clause-registered g c =
    IfOk-from_err c.from_residual-in_err-reserve-2.result _ c.from_residual-in_err-reserve-2.ensures.0

pub returns-in_err-reserve-2-clause-placed : goal.returns-in_err-reserve-2-clause-placed
returns-in_err-reserve-2-clause-placed g c =
    IfOk-from_err c.from_residual-in_err-reserve-2.result _ c.from_residual-in_err-reserve-2.ensures.0

pub returns-in_err-reserve-2-clause-unchanged : goal.returns-in_err-reserve-2-clause-unchanged
returns-in_err-reserve-2-clause-unchanged g c =
    on_err c.from_residual-in_err-reserve-2.result _ (refl, c.in_ok-reserve.ensures.items, c.in_err-reserve-2.ensures.items)

pub returns-in_err-family-clause-registered : goal.returns-in_err-family-clause-registered
returns-in_err-family-clause-registered g c =
    IfOk-from_err c.from_residual-in_err-family.result _ c.from_residual-in_err-family.ensures.0

pub returns-in_err-family-clause-placed : goal.returns-in_err-family-clause-placed
returns-in_err-family-clause-placed g c =
    IfOk-from_err c.from_residual-in_err-family.result _ c.from_residual-in_err-family.ensures.0

pub returns-in_err-family-clause-unchanged : goal.returns-in_err-family-clause-unchanged
returns-in_err-family-clause-unchanged g c =
    on_err c.from_residual-in_err-family.result _ (
      c.in_err-family.ensures.unchanged,
      c.in_ok-reserve.ensures.items,
      c.in_ok-reserve-2.ensures.items,
    )

pub returns-clause-registered : goal.returns-clause-registered
returns-clause-registered g c = record {
  number = c.in_ok-family.family.number;
  registered = c.in_ok-family.ensures.registered;
  families = family_more c.args.families.now.items c.reserve.new.self.items c.push_reserved-2.new.self.items c.args.desc
      c.in_ok-copy.field-0 c.in_ok-kept.kept.value c.args.group c.args.home c.in_ok-parts.parts.items
      c.push_reserved.new.self.items
      (part_at c.args.home c.in_ok-family.family.number) c.in_ok-reserve.ensures.items c.push_reserved-2.ensures.items
      c.in_ok-kept.ensures.ok c.in_ok-copy.ensures c.in_ok-parts.ensures.items c.push_reserved.ensures.items;
}

pub returns-clause-placed : goal.returns-clause-placed
returns-clause-placed g c =
    let room = c.in_ok-reserve-2.ensures.ok in
    let count = c.len-number.ensures in
    put_at (is_ok c.insert.result) c.args.order.now.items c.reserve-2.new.self.items c.insert.new.self.items c.args.place
    c.len-number.result (length c.args.families.now.items) (c.insert.ensures.succeeds (omega (arith, room)))
    c.in_ok-reserve-2.ensures.items (omega (arith, count)) c.insert.ensures.items

pub returns-clause-unchanged : goal.returns-clause-unchanged
returns-clause-unchanged g c = tt

pub insert-requires : goal.insert-requires
insert-requires g c = let at = c.requires.place in let same = c.in_ok-reserve-2.ensures.len in omega (arith, at, same)

pub register_on-requires : goal.register_on-requires
register_on-requires g c = (search rules, c.requires.home)

pub push_reserved-requires : goal.push_reserved-requires
push_reserved-requires g c =
    let none = c.in_ok-parts.ensures.len in let room = c.in_ok-parts.ensures.capacity in omega (arith, none, room)

pub push_reserved-requires-2 : goal.push_reserved-requires-2
push_reserved-requires-2 g c = let room = c.in_ok-reserve.ensures.ok in omega (arith, room)
