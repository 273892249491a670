-- What a clause reads of a page behind its lock, and what its calls hand out.
use Rattle.std.specs.Prelude.{ℕ, ◌+◌, ◌<◌, ◌≤◌, All}
use Rattle.expo_text.specs.Scraped.{Scraped}
use Rattle.registry_state.specs.Kept.{IsKept, RegistryView}
use Rattle.registry_state.specs.declared.handle.Handle.{Handle}
use Rattle.scrape_page.specs.Families.{PageView}
use Rattle.scrape_page.specs.Kept.{IsPage}
use Rattle.scrape_page.specs.Scraping.{ShowsPage}
use Rattle.page_crew.specs.declared.page_registry.PageRegistry.{PageRegistry}
use Rattle.page_crew.specs.declared.shared_scanner.SharedScanner.{SharedScanner}
use Rattle.page_crew.specs.Shared.{recorded_in, quit_in, gave_in, gave_up_in}

module _ {N C H G : ℕ} where
  -- the id of its first board
  abbrev pub id_of : PageRegistry N C H G → ℕ
  id_of r = r.first

  -- a board's journal replays to its families; its kept scrapes are at most its window, the last that its reader recorded, and
  -- moments of one history of publishes
  abbrev pub IsKeptBoard : RegistryView (SharedScanner N C H G) → Type 0
  IsKeptBoard board = IsKept N C H G (recorded_in board.source) board.journal board.window board.state

  -- a page, each of whose boards keeps that
  pub record IsKeptPage (page : PageView (SharedScanner N C H G)) : Type 0 where
    pub page_is : IsPage page
    pub boards : All IsKeptBoard page.boards

-- a board of the page whose first board has the id `first` may have this id
abbrev pub IsIdOf : (first id : ℕ) → Type 0
IsIdOf first id = (first ≤ id) × (id < first + 96)

-- the handle has such an id
abbrev pub IsOfPage : (first : ℕ) → Handle → Type 0
IsOfPage first (Handle.Counter counter) = IsIdOf first counter.registry
IsOfPage first (Handle.Histogram hist) = IsIdOf first hist.registry
IsOfPage first (Handle.Gauge gauge) = IsIdOf first gauge.registry

-- Each board of a page was scraped, once or again where a scan was given up, and this is what they show together: of each board
-- its families and their numbers at its newest scrape, a moment of a history of publishes
pub record HasMoments (n c h g : ℕ) (whole : Scraped) : Type 0 where
  pub before : PageView (SharedScanner n c h g)
  pub after : PageView (SharedScanner n c h g)
  pub shows : ShowsPage n c h g recorded_in quit_in gave_in gave_up_in before after whole
  pub kept : IsKeptPage after

-- there is such a page
abbrev pub ShowsMoments : (n c h g : ℕ) → Scraped → Type 0
ShowsMoments n c h g whole = ∥ HasMoments n c h g whole ∥₁
