use Rattle.std.proofs.Common.{◌<◌, List, length, map, sym, ap, subst, ◌∙◌, arith}
use Rattle.std.proofs.lemmas.List.{with_items_is}
use Rattle.registry_state.specs.Kept.{RegistryView}
use Rattle.scrape_page.specs.Kept.{IsHeldPage}
use Rattle.scrape_page.specs.Windows.{with_window}
use Rattle.scrape_page.proofs.Faces.{held_still}
use Rattle.scrape_page.proofs.Facts.{one_fits}
use Rattle.scrape_page.proofs.Windowed.{same_windowed}
use Rattle.scrape_page.proofs.page.Page.set_window.Goals as goal

pub set_each-requires : goal.set_each-requires
set_each-requires g c = (
  one_fits (length c.deref_mut.result.now) _ _
      (subst (λ (boards : List (RegistryView g.row.S.Denot)). 0 < length boards) (sym c.deref_mut.ensures.value)
      c.self.invariant.page_is.some)
      c.deref_mut.type_inv.1,
  (let low = c.if-window-lt1.false in omega (arith, low), let high = c.if-window-gt-MAX_WINDOW.false in omega (arith, high)),
)

pub invariant_of-self : goal.invariant_of-self
invariant_of-self g c =
    let old = c.self.inside.boards.items in
    let P = λ (l : List (RegistryView g.row.S.Denot)).
    IsHeldPage (record { boards = l; families = c.self.inside.families.items }) c.self.inside.order.items in
    subst P (sym (with_items_is c.self.inside.boards c.set_each.new.boards (c.set_each.auto.boards ∙ c.deref_mut.ensures.len)))
    (subst P (sym (c.set_each.ensures ∙ ap (map (with_window c.args.window)) c.deref_mut.ensures.value))
    (held_still old (map (with_window c.args.window) old) (same_windowed c.args.window old) c.self.inside.families.items
    c.self.inside.order.items c.self.invariant))
