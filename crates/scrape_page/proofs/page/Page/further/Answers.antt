use Rattle.std.proofs.Common.{◌≡◌, ◌<◌, List, length, ap, subst, sym, ◌∙◌, arith}
use Rattle.registry_state.specs.Kept.{RegistryView}
use Rattle.scrape_page.specs.Families.{PageView}
use Rattle.scrape_page.specs.Rooms.{AreFull, IsRoomiest}
use Rattle.scrape_page.proofs.Facts.{one_fits}
use Rattle.scrape_page.proofs.Further.{is_full}
use Rattle.scrape_page.proofs.page.Page.further.Goals as goal

pub roomiest-room-requires : goal.roomiest-room-requires
roomiest-room-requires g c =
    let some : 0 < length c.deref.result.now =
    subst (λ (l : List (RegistryView g.row.S.Denot)). 0 < length l) (sym c.deref.ensures.value) c.self.invariant.page_is.some in
    (one_fits (length c.deref.result.now) _ _ some c.deref.type_inv.1, some)

pub returns-then-room-eq0-clause-fault : goal.returns-then-room-eq0-clause-fault
returns-then-room-eq0-clause-fault g c =
    let C = g.row.C in let H = g.row.H in let G = g.row.G in
    let boards : c.deref.result.now ≡ c.args.self.now.boards =
    c.deref.ensures.value ∙ ap (λ (p : PageView g.row.S.Denot). p.boards) c.self.view_is in (
      c.slots_of.ensures,
      is_full C H G c.args.self.now c.args.number c.args.kind c.args.values.now c.requires
          (subst (AreFull C H G c.args.kind) boards (c.roomiest-room.ensures.full c.if-room-eq0.true)),
    )

pub returns-clause-place : goal.returns-clause-place
returns-clause-place g c =
    let boards : c.deref.result.now ≡ c.args.self.now.boards =
    c.deref.ensures.value ∙ ap (λ (p : PageView g.row.S.Denot). p.boards) c.self.view_is in (
      c.roomiest-room.result.free,
      subst (λ (l : List (RegistryView g.row.S.Denot)). IsRoomiest g.row.C g.row.H g.row.G c.args.kind l
          c.roomiest-room.result.board
          c.roomiest-room.result.free) boards c.roomiest-room.ensures.roomiest,
      omega arith,
    )
