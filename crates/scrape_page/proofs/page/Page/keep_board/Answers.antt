use Rattle.std.proofs.Common.{◌≡◌, ℕ, ◌<◌, List, Some, Result, length, slice_get, set, refl, sym, subst}
use Rattle.std.proofs.lemmas.Option.{slice_get_read}
use Rattle.expo_text.specs.Scraped.{Scraped}
use Rattle.registry_state.specs.Kept.{RegistryView}
use Rattle.scrape_http.specs.declared.source.NoScrape.{NoScrape}
use Rattle.scrape_page.specs.Families.{PageView}
use Rattle.scrape_page.specs.Scraping.{BoardScrapes, BoardAloneScrapes}
use Rattle.scrape_page.specs.Unshown.{Unshown}
use Rattle.scrape_page.proofs.Again.{SameFace, same_asked}
use Rattle.scrape_page.proofs.Faces.{held_still}
use Rattle.scrape_page.proofs.Facts.{one_fits}
use Rattle.scrape_page.proofs.Unshown.{from_unshown, unshown_as}
use Rattle.scrape_page.proofs.Windowed.{same_set}
use Rattle.scrape_page.proofs.page.Page.keep_board.Given.{Over}
use Rattle.scrape_page.proofs.page.Page.keep_board.Goals as goal

-- what one board did
abbrev Board : (g : Over) → RegistryView g.row.S.Denot → RegistryView g.row.S.Denot → Result Scraped NoScrape → Type 0
Board g = BoardScrapes g.row.N g.row.C g.row.H g.row.G g.S.Source.recorded g.S.Source.quit g.S.Source.gave g.S.Source.gave_up

-- what the page did
abbrev Alone : (g : Over) → (number : ℕ) → PageView g.row.S.Denot → PageView g.row.S.Denot → Result Scraped NoScrape → Type 0
Alone g number old new result = BoardAloneScrapes g.row.N g.row.C g.row.H g.row.G g.S.Source.recorded g.S.Source.quit
    g.S.Source.gave
    g.S.Source.gave_up number old new result

pub invariant_of-self : goal.invariant_of-self
invariant_of-self g c =
    let old = c.self.inside.boards.items in
    let within : c.args.number < length old =
    subst (λ (page : PageView g.row.S.Denot). c.args.number < length page.boards) (sym c.self.view_is) c.requires in
    let there : slice_get old c.args.number ≡ Some c.index_mut.result.now =
    slice_get_read old (length old) c.args.number c.index_mut.result.now refl within c.index_mut.ensures.value in
    held_still old (set old c.args.number c.keep_again.new.board)
    (same_set old c.args.number c.index_mut.result.now c.keep_again.new.board there
    (from_unshown (Board g) c.index_mut.result.now c.keep_again.new.board (SameFace c.index_mut.result.now c.keep_again.new.board)
    (λ r did. same_asked g.row.N g.row.C g.row.H g.row.G g.S.Source.recorded g.S.Source.quit g.S.Source.gave g.S.Source.gave_up
    c.index_mut.result.now c.keep_again.new.board r did) c.keep_again.result c.keep_again.ensures))
    c.self.inside.families.items c.self.inside.order.items c.self.invariant

pub returns : goal.returns
returns g c =
    let old : PageView g.row.S.Denot = record { boards = c.self.inside.boards.items; families = c.self.inside.families.items } in
    let new : PageView g.row.S.Denot = record {
      boards = set old.boards c.args.number c.keep_again.new.board;
      families = old.families;
    } in
    let within : c.args.number < length old.boards =
    subst (λ (page : PageView g.row.S.Denot). c.args.number < length page.boards) (sym c.self.view_is) c.requires in
    subst (λ (page : PageView g.row.S.Denot). Unshown (Alone g c.args.number) page new c.keep_again.result) c.self.view_is
    (unshown_as (Board g) (Alone g c.args.number) c.index_mut.result.now c.keep_again.new.board old new (λ r did. record {
      before = c.index_mut.result.now;
      after = c.keep_again.new.board;
      at = slice_get_read old.boards (length old.boards) c.args.number c.index_mut.result.now refl within
          c.index_mut.ensures.value;
      scrapes = did;
      new_is = refl;
    }) c.keep_again.result c.keep_again.ensures)

pub keep_again-requires : goal.keep_again-requires
keep_again-requires g c =
    one_fits (length c.as_slice-boards.result.now) _ _
    (subst (λ (boards : List (RegistryView g.row.S.Denot)). 0 < length boards) (sym c.as_slice-boards.ensures.value)
    c.self.invariant.page_is.some) c.as_slice-boards.type_inv.1
