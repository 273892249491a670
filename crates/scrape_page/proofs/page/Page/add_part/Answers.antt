use Rattle.std.proofs.Common.{◌<◌, List, length, subst, sym}
use Rattle.registry_state.specs.Kept.{RegistryView}
use Rattle.scrape_page.specs.Families.{PageView}
use Rattle.scrape_page.proofs.Facts.{one_fits}
use Rattle.scrape_page.proofs.Parted.{MayTake, can_take, held_either}
use Rattle.scrape_page.proofs.page.Page.add_part.Goals as goal

pub take_part-requires : goal.take_part-requires
take_part-requires g c =
    let C = g.row.C in let H = g.row.H in let G = g.row.G in
    let page : PageView g.row.S.Denot = record { boards = c.self.inside.boards.items; families = c.self.inside.families.items } in (
      one_fits (length c.as_slice-boards.result.now) _ _
          (subst (λ (l : List (RegistryView g.row.S.Denot)). 0 < length l) (sym c.as_slice-boards.ensures.value)
          c.self.invariant.page_is.some) c.as_slice-boards.type_inv.1,
      can_take C H G page c.self.inside.order.items c.args.number c.args.place c.self.invariant
          (subst (λ (p : PageView g.row.S.Denot). MayTake C H G p c.args.number c.args.place) (sym c.self.view_is) c.requires),
    )

pub invariant_of-self : goal.invariant_of-self
invariant_of-self g c =
    let C = g.row.C in let H = g.row.H in let G = g.row.G in
    let page : PageView g.row.S.Denot = record { boards = c.self.inside.boards.items; families = c.self.inside.families.items } in
    held_either C H G page _ c.self.inside.order.items c.args.number c.args.place c.self.invariant
    (subst (λ (p : PageView g.row.S.Denot). MayTake C H G p c.args.number c.args.place) (sym c.self.view_is) c.requires)
    c.take_part.result c.take_part.ensures.taken c.take_part.ensures.place c.take_part.ensures.unchanged
