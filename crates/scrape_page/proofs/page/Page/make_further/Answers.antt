use Rattle.std.proofs.Common.{subst, sym, inr, arith}
use Rattle.scrape_page.specs.Families.{PageView}
use Rattle.scrape_page.specs.Calls.{TakesPart}
use Rattle.scrape_page.proofs.Further.{may_take, is_no_memory, may_grow, takes_part, made_further}
use Rattle.scrape_page.proofs.page.Page.make_further.Goals as goal

pub add_part-requires : goal.add_part-requires
add_part-requires g c =
    let room = c.in_ok-place.ensures.place in (
      omega arith,
      may_take g.row.C g.row.H g.row.G c.args.self.now c.args.number c.args.kind c.args.values.now c.requires c.in_ok-place.place
          room.0 room.1 room.2,
    )

pub returns-in_default-clause-fault : goal.returns-in_default-clause-fault
returns-in_default-clause-fault g c =
    let room = c.in_ok-place.ensures.place in
    is_no_memory g.row.C g.row.H g.row.G c.args.self.now c.args.number c.args.kind c.args.values.now c.requires
    c.in_ok-place.place
    room.0 room.1 room.2

pub make_there-requires : goal.make_there-requires
make_there-requires g c =
    let room = c.in_ok-place.ensures.place in (
      omega arith,
      may_grow g.row.C g.row.H g.row.G c.args.self.now c.args.number c.args.kind c.args.values.now c.requires c.in_ok-place.place
          room.0 room.1 room.2 c.add_part.new.self c.in-Ok.part c.in-Ok.ensures.taken c.in-Ok.ensures.place,
    )

pub returns-in-Ok-make_there-clause-made : goal.returns-in-Ok-make_there-clause-made
returns-in-Ok-make_there-clause-made g c =
    let room = c.in_ok-place.ensures.place in
    made_further g.row.C g.row.H g.row.G c.args.self.now c.args.number c.args.kind c.args.values.now c.requires
    c.in_ok-place.place
    room.0 room.1 room.2 c.add_part.new.self c.make_there.new.self c.in-Ok.part c.in-Ok-make_there.handle c.in-Ok.ensures.taken
    c.in-Ok.ensures.place c.in-Ok-make_there.ensures.made

pub returns-in-Err-clause-fault : goal.returns-in-Err-clause-fault
returns-in-Err-clause-fault g c =
    let room = c.in_ok-place.ensures.place in
    is_no_memory g.row.C g.row.H g.row.G c.args.self.now c.args.number c.args.kind c.args.values.now c.requires
    c.in_ok-place.place
    room.0 room.1 room.2

pub returns-in-Err-clause-leaves : goal.returns-in-Err-clause-leaves
returns-in-Err-clause-leaves g c =
    let room = c.in_ok-place.ensures.place in
    inr (
      c.in-Ok.part,
      subst (λ (p : PageView g.row.S.Denot). TakesPart g.row.C g.row.H g.row.G c.args.self.now p c.args.number c.in-Ok.part)
          (sym c.in-Err.ensures.unchanged)
          (takes_part g.row.C g.row.H g.row.G c.args.self.now c.args.number c.args.kind c.args.values.now c.requires
          c.in_ok-place.place
          room.0 room.1 room.2 c.add_part.new.self c.in-Ok.part c.in-Ok.ensures.taken c.in-Ok.ensures.place),
    )
