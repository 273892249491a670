use Rattle.std.proofs.Common.{◌<◌, List, length, sym, subst}
use Rattle.registry_state.specs.Kept.{RegistryView}
use Rattle.scrape_page.proofs.Facts.{one_fits}
use Rattle.scrape_page.proofs.page.Page.drop.Goals as goal

pub drop-self-inside-requires-room-T-Destruct : goal.drop-self-inside-requires-room-T-Destruct
drop-self-inside-requires-room-T-Destruct g c κs within =
    one_fits (length c.as_slice-boards.result.now) _ _
    (subst (λ (l : List (RegistryView g.row.S.Denot)). 0 < length l) (sym c.as_slice-boards.ensures.value)
    c.self.invariant.page_is.some)
    c.as_slice-boards.type_inv.1
