use Rattle.std.proofs.Common.{◌≡◌, ◌∙◌, List, All, subst, ap}
use Rattle.registry_state.specs.Kept.{RegistryView}
use Rattle.scrape_page.specs.Families.{PageView}
use Rattle.scrape_page.specs.Kept.{IsPage}
use Rattle.page_crew.specs.declared.shared_scanner.SharedScanner.{SharedScanner}
use Rattle.page_crew.specs.Locking.{IsKeptBoard}
use Rattle.page_crew.specs.Owned.{page_of}
use Rattle.page_crew.proofs.page_registry.PageRegistry.into_crew.Goals as goal

pub returns : goal.returns
returns g c =
    let S = SharedScanner g.row.N g.row.C g.row.H g.row.G in
    let page : c.page.result.now ≡ page_of c.into_inner-crew.result = c.page.ensures in
    let boards : c.boards.result.now ≡ (page_of c.into_inner-crew.result).boards =
    c.boards.ensures.boards ∙ ap (λ (p : PageView S). p.boards) page in
    record {
      page_is = subst (λ (p : PageView S). IsPage p) page c.boards.ensures.kept;
      boards = subst (λ (l : List (RegistryView S)). All IsKeptBoard l) boards c.look_at.ensures;
    }
