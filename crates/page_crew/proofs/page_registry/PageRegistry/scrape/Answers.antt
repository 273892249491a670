use Rattle.std.proofs.Common.{◌≡◌, ◌∙◌, List, All, subst, ap}
use Rattle.registry_state.specs.Kept.{RegistryView}
use Rattle.scrape_page.specs.Families.{PageView}
use Rattle.scrape_page.specs.Kept.{IsPage}
use Rattle.page_crew.specs.declared.owner.PageCrew.{PageCrew}
use Rattle.page_crew.specs.declared.shared_scanner.SharedScanner.{SharedScanner}
use Rattle.page_crew.specs.Locking.{IsKeptBoard}
use Rattle.page_crew.specs.Owned.{page_of}
use Rattle.page_crew.proofs.Locking.{shows_moments}
use Rattle.page_crew.proofs.page_registry.PageRegistry.scrape.Goals as goal

pub returns : goal.returns
returns g c =
    let S = SharedScanner g.row.N g.row.C g.row.H g.row.G in
    let same : c.deref.result.now ≡ c.scrape-scrape.new.self = c.deref.ensures in
    let page : c.page.result.now ≡ page_of c.scrape-scrape.new.self =
    c.page.ensures ∙ ap (λ (crew : PageCrew g.row.N g.row.C g.row.H g.row.G). page_of crew) same in
    let boards : c.boards.result.now ≡ (page_of c.scrape-scrape.new.self).boards =
    c.boards.ensures.boards ∙ ap (λ (p : PageView S). p.boards) page in
    record {
      moments = shows_moments c.deref_mut.result.now c.scrape-scrape.new.self c.scrape-scrape.result
          c.scrape-scrape.ensures.scraped
          (subst (λ (p : PageView S). IsPage p) page c.boards.ensures.kept)
          (subst (λ (l : List (RegistryView S)). All IsKeptBoard l) boards c.look_at.ensures);
    }
