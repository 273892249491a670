use Rattle.std.proofs.Common.{◌≡◌, ◌<◌, List, Some, length, slice_get, set, refl, sym, subst}
use Rattle.std.proofs.lemmas.Option.{slice_get_read}
use Rattle.registry_state.specs.Kept.{RegistryView}
use Rattle.scrape_page.specs.Families.{PageView}
use Rattle.scrape_page.specs.Scraping.{BoardAloneScrapes}
use Rattle.scrape_page.proofs.Again.{same_asked}
use Rattle.scrape_page.proofs.Faces.{held_still}
use Rattle.scrape_page.proofs.Facts.{one_fits}
use Rattle.scrape_page.proofs.Windowed.{same_set}
use Rattle.scrape_page.proofs.page.Page.scrape_board.Goals as goal

pub scrape_board-requires-room-X-MakesScrapes : goal.scrape_board-requires-room-X-MakesScrapes
scrape_board-requires-room-X-MakesScrapes g c κs within =
    one_fits (length c.as_slice-boards.result.now) _ _
    (subst (λ (boards : List (RegistryView g.row.S.Denot)). 0 < length boards) (sym c.as_slice-boards.ensures.value)
    c.self.invariant.page_is.some) c.as_slice-boards.type_inv.1

pub invariant_of-self : goal.invariant_of-self
invariant_of-self g c =
    let old = c.self.inside.boards.items in
    let within : c.args.number < length old =
    subst (λ (page : PageView g.row.S.Denot). c.args.number < length page.boards) (sym c.self.view_is) c.requires in
    let there : slice_get old c.args.number ≡ Some c.index_mut.result.now =
    slice_get_read old (length old) c.args.number c.index_mut.result.now refl within c.index_mut.ensures.value in
    held_still old (set old c.args.number c.scrape_board.new.board)
    (same_set old c.args.number c.index_mut.result.now c.scrape_board.new.board there
    (same_asked g.row.N g.row.C g.row.H g.row.G g.S.Source.recorded g.S.Source.quit g.S.Source.gave g.S.Source.gave_up
    c.index_mut.result.now c.scrape_board.new.board c.scrape_board.result c.scrape_board.ensures))
    c.self.inside.families.items c.self.inside.order.items c.self.invariant

pub returns : goal.returns
returns g c =
    let old : PageView g.row.S.Denot = record { boards = c.self.inside.boards.items; families = c.self.inside.families.items } in
    let new : PageView g.row.S.Denot = record {
      boards = set old.boards c.args.number c.scrape_board.new.board;
      families = old.families;
    } in
    let within : c.args.number < length old.boards =
    subst (λ (page : PageView g.row.S.Denot). c.args.number < length page.boards) (sym c.self.view_is) c.requires in
    subst (λ (page : PageView g.row.S.Denot). BoardAloneScrapes g.row.N g.row.C g.row.H g.row.G g.S.Source.recorded
    g.S.Source.quit
    g.S.Source.gave g.S.Source.gave_up c.args.number page new c.scrape_board.result) c.self.view_is
    (record {
      before = c.index_mut.result.now;
      after = c.scrape_board.new.board;
      at = slice_get_read old.boards (length old.boards) c.args.number c.index_mut.result.now refl within
          c.index_mut.ensures.value;
      scrapes = c.scrape_board.ensures;
      new_is = refl;
    })
