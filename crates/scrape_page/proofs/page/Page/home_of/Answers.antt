use Rattle.std.proofs.Common.{◌≡◌, ◌≢◌, ◌<◌, List, length, All, sym, subst, inl, inr}
use Rattle.std.specs.List.{Any}
use Rattle.registry_state.specs.Kept.{RegistryView}
use Rattle.scrape_page.specs.Families.{PageFamily, PageView}
use Rattle.scrape_page.specs.Rooms.{IsHome, IsRoomiest}
use Rattle.scrape_page.proofs.Facts.{one_fits}
use Rattle.scrape_page.proofs.page.Page.home_of.Goals as goal

pub roomiest-requires : goal.roomiest-requires
roomiest-requires g c =
    let some : 0 < length c.as_slice-boards.result.now =
    subst (λ (l : List (RegistryView g.row.S.Denot)). 0 < length l) (sym c.as_slice-boards.ensures.value)
    c.self.invariant.page_is.some in
    (one_fits (length c.as_slice-boards.result.now) _ _ some c.as_slice-boards.type_inv.1, some)

pub returns-in-Some : goal.returns-in-Some
returns-in-Some g c =
    subst (λ (p : PageView g.row.S.Denot). IsHome g.row.C g.row.H g.row.G p c.args.kind c.args.group c.in-Some.home)
    c.self.view_is
    (inl (subst (Any (λ (family : PageFamily). (family.group ≡ c.args.group) × (family.home ≡ c.in-Some.home)))
    c.deref.ensures.value
    c.in-Some.ensures))

pub returns-in-None : goal.returns-in-None
returns-in-None g c =
    subst (λ (p : PageView g.row.S.Denot). IsHome g.row.C g.row.H g.row.G p c.args.kind c.args.group c.roomiest.result.board)
    c.self.view_is
    (inr (
      subst (All (λ (family : PageFamily). family.group ≢ c.args.group)) c.deref.ensures.value c.in-None.ensures,
      c.roomiest.result.free,
      subst (λ (l : List (RegistryView g.row.S.Denot)). IsRoomiest g.row.C g.row.H g.row.G c.args.kind l c.roomiest.result.board
          c.roomiest.result.free) c.as_slice-boards.ensures.value c.roomiest.ensures.roomiest,
    ))
