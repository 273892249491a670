use Rattle.std.proofs.Common.{◌≡◌, ◌+◌, ◌<◌, List, length, set, refl, ap, sym, subst, arith, rules}
use Rattle.std.specs.Arc.{arc_value}
use Rattle.registry_state.specs.Kept.{RegistryView}
use Rattle.registry_state.proofs.Making.{at_some, some_within, there_at}
use Rattle.scrape_page.specs.Families.{PageFamily, PageView}
use Rattle.scrape_page.specs.Calls.{AddsChild}
use Rattle.scrape_page.proofs.Facts.{one_fits}
use Rattle.scrape_page.proofs.Born.{Growable, MayGrow, adds_child, held_born, can_make}
use Rattle.scrape_page.proofs.page.Page.make_there.Goals as goal

pub make_on-requires : goal.make_on-requires
make_on-requires g c =
    let C = g.row.C in let H = g.row.H in let G = g.row.G in
    let page : PageView g.row.S.Denot = record { boards = c.self.inside.boards.items; families = c.self.inside.families.items } in (
      one_fits (length c.as_slice-boards.result.now) _ _
          (subst (λ (l : List (RegistryView g.row.S.Denot)). 0 < length l) (sym c.as_slice-boards.ensures.value)
          c.self.invariant.page_is.some) c.as_slice-boards.type_inv.1,
      can_make C H G page c.args.number c.args.part c.args.values.now c.self.invariant.page_is
          (subst (λ (p : PageView g.row.S.Denot). MayGrow C H G p c.args.number c.args.part c.args.values.now) (sym
          c.self.view_is)
          c.requires),
    )

pub index_mut-it-requires : goal.index_mut-it-requires
index_mut-it-requires g c =
    let C = g.row.C in let H = g.row.H in let G = g.row.G in
    let page : PageView g.row.S.Denot = record { boards = c.self.inside.boards.items; families = c.self.inside.families.items } in
    let within : c.args.number < length c.self.inside.families.items =
    some_within (Growable C H G page c.args.part c.args.values.now) page.families c.args.number
    (subst (λ (p : PageView g.row.S.Denot). MayGrow C H G p c.args.number c.args.part c.args.values.now) (sym c.self.view_is)
    c.requires) in
    search rules

pub overflow_add-it : goal.overflow_add-it
overflow_add-it g c =
    let C = g.row.C in let H = g.row.H in let G = g.row.G in
    let page : PageView g.row.S.Denot = record { boards = c.self.inside.boards.items; families = c.self.inside.families.items } in
    let may : MayGrow C H G page c.args.number c.args.part c.args.values.now =
    subst (λ (p : PageView g.row.S.Denot). MayGrow C H G p c.args.number c.args.part c.args.values.now) (sym c.self.view_is)
    c.requires in
    let family : PageFamily = c.index_mut-it.result.now in
    let can : Growable C H G page c.args.part c.args.values.now family =
    at_some (Growable C H G page c.args.part c.args.values.now) page.families c.args.number family
    (there_at (Growable C H G page c.args.part c.args.values.now) page.families c.args.number family may
    c.index_mut-it.ensures.value) may in
    let few : family.children < 256 = can.1 in
    let same : c.it.inside.children ≡ family.children = ap (λ (f : PageFamily). f.children) c.it.view_is in
    omega (arith, few, same)

pub invariant_of-self-2 : goal.invariant_of-self-2
invariant_of-self-2 g c =
    let C = g.row.C in let H = g.row.H in let G = g.row.G in
    let page : PageView g.row.S.Denot = record { boards = c.self.inside.boards.items; families = c.self.inside.families.items } in
    let may : MayGrow C H G page c.args.number c.args.part c.args.values.now =
    subst (λ (p : PageView g.row.S.Denot). MayGrow C H G p c.args.number c.args.part c.args.values.now) (sym c.self.view_is)
    c.requires in
    held_born C H G page _ c.self.inside.order.items c.args.number c.args.part c.args.values.now c.in_ok-handle.handle
    c.self.invariant may
    (adds_child C H G page _ c.args.number c.args.part c.args.values.now c.in_ok-handle.handle c.index_mut-it.result.now _ may
    c.index_mut-it.ensures.value c.it.view_is c.in_ok-handle.ensures.made refl)

pub returns-clause-made : goal.returns-clause-made
returns-clause-made g c =
    let C = g.row.C in let H = g.row.H in let G = g.row.G in
    let page : PageView g.row.S.Denot = record { boards = c.self.inside.boards.items; families = c.self.inside.families.items } in
    let may : MayGrow C H G page c.args.number c.args.part c.args.values.now =
    subst (λ (p : PageView g.row.S.Denot). MayGrow C H G p c.args.number c.args.part c.args.values.now) (sym c.self.view_is)
    c.requires in
    let new : PageView g.row.S.Denot = record {
      boards = c.make_on.new.boards.items;
      families = set page.families c.args.number (record {
        desc = arc_value c.it.inside.desc;
        group = c.it.inside.group;
        home = c.it.inside.home;
        parts = c.it.inside.parts.items;
        children = c.it.inside.children + 1;
      });
    } in
    subst (λ (p : PageView g.row.S.Denot). AddsChild C H G p new c.args.number c.args.part c.args.values.now
    c.in_ok-handle.handle)
    c.self.view_is
    (adds_child C H G page new c.args.number c.args.part c.args.values.now c.in_ok-handle.handle c.index_mut-it.result.now _ may
    c.index_mut-it.ensures.value c.it.view_is c.in_ok-handle.ensures.made refl)
