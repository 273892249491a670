use Rattle.std.proofs.Common.{◌≡◌, ◌≢◌, ◌<◌, ◌≤◌, ℕ, List, length, map, All, ap, sym, subst, ◌∙◌}
use Rattle.std.proofs.lemmas.List.Elements.{All-weaker}
use Rattle.metric_desc.specs.Desc.{Clash}
use Rattle.registry_state.specs.Kept.{RegistryView}
use Rattle.registry_state.specs.Held.{IsPlaceOfName}
use Rattle.scrape_page.specs.Families.{PageFamily, PageView, as_family}
use Rattle.scrape_page.specs.Faults.{AreApart}
use Rattle.scrape_page.specs.Rooms.{IsHome}
use Rattle.scrape_page.proofs.Counted.{fits_at}
use Rattle.scrape_page.proofs.Facts.{one_fits, names_apart}
use Rattle.scrape_page.proofs.Registered.{held_either}
use Rattle.scrape_page.proofs.page.Page.add_family.Goals as goal

pub place_of_name-place-requires-clause-new : goal.place_of_name-place-requires-clause-new
place_of_name-place-requires-clause-new g c =
    let families : c.args.self.now.families ≡ c.deref.result.now =
    sym (c.deref.ensures.value ∙ ap (λ (p : PageView g.row.S.Denot). p.families) c.self.view_is) in
    let name : c.as_str.result.now ≡ c.args.desc.name = c.as_str.ensures.text ∙ c.name.ensures in
    subst (λ n. All (λ (f : PageFamily). f.desc.name ≢ n) c.deref.result.now) (sym name)
    (subst (λ (l : List PageFamily). All (λ (f : PageFamily). f.desc.name ≢ c.args.desc.name) l) families
    (All-weaker (λ (f : PageFamily). ¬ (Clash f.desc c.args.desc)) (λ (f : PageFamily). f.desc.name ≢ c.args.desc.name)
    (λ f apart. names_apart f.desc c.args.desc apart) c.args.self.now.families c.requires.accepted.0))

pub push_registered-requires : goal.push_registered-requires
push_registered-requires g c =
    let page : PageView g.row.S.Denot = record { boards = c.self.inside.boards.items; families = c.self.inside.families.items } in
    let view : c.args.self.now ≡ page = sym c.self.view_is in (
      one_fits (length c.as_slice-boards.result.now) _ _
          (subst (λ (l : List (RegistryView g.row.S.Denot)). 0 < length l) (sym c.as_slice-boards.ensures.value)
          c.self.invariant.page_is.some) c.as_slice-boards.type_inv.1,
      (
        subst (λ (l : List ℕ). c.place_of_name-place.result ≤ length l) c.deref-2.ensures.value
            c.place_of_name-place.ensures.within,
        fits_at g.row.C g.row.H g.row.G page c.self.inside.order.items c.self.invariant c.args.desc c.args.group c.args.home
            (subst (λ (p : PageView g.row.S.Denot). AreApart p.families c.args.desc × (length p.families < 128)) view
            c.requires.accepted)
            (subst (λ (p : PageView g.row.S.Denot). IsHome g.row.C g.row.H g.row.G p c.args.desc.kind c.args.group c.args.home)
            view
            c.requires.home),
      ),
    )

pub invariant_of-self : goal.invariant_of-self
invariant_of-self g c =
    let page : PageView g.row.S.Denot = record { boards = c.self.inside.boards.items; families = c.self.inside.families.items } in
    let view : c.args.self.now ≡ page = sym c.self.view_is in
    let name : c.as_str.result.now ≡ c.args.desc.name = c.as_str.ensures.text ∙ c.name.ensures in
    let at : IsPlaceOfName (map as_family page.families) c.self.inside.order.items c.args.desc.name c.place_of_name-place.result =
    subst (λ (l : List PageFamily). IsPlaceOfName (map as_family l) c.self.inside.order.items c.args.desc.name
    c.place_of_name-place.result)
    c.deref.ensures.value
    (subst (λ (o : List ℕ). IsPlaceOfName (map as_family c.deref.result.now) o c.args.desc.name c.place_of_name-place.result)
    c.deref-2.ensures.value
    (subst (λ (t : List ℕ). IsPlaceOfName (map as_family c.deref.result.now) c.deref-2.result.now t c.place_of_name-place.result)
    name
    c.place_of_name-place.ensures)) in
    held_either g.row.C g.row.H g.row.G page _ c.args.desc c.args.group c.args.home c.self.inside.order.items _
    c.place_of_name-place.result
    c.self.invariant
    (subst (λ (p : PageView g.row.S.Denot). AreApart p.families c.args.desc × (length p.families < 128)) view c.requires.accepted)
    (subst (λ (p : PageView g.row.S.Denot). IsHome g.row.C g.row.H g.row.G p c.args.desc.kind c.args.group c.args.home) view
    c.requires.home) at c.push_registered.result c.push_registered.ensures.registered c.push_registered.ensures.placed
    c.push_registered.ensures.unchanged
