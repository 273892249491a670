-- What a scrape of a page behind its lock shows.
use Rattle.std.proofs.Common.{ℕ, All, Result, Ok, Err, IfOk}
use Rattle.expo_text.specs.Scraped.{Scraped}
use Rattle.scrape_http.specs.declared.source.NoScrape.{NoScrape}
use Rattle.scrape_page.specs.Kept.{IsPage}
use Rattle.page_crew.specs.declared.owner.PageCrew.{PageCrew}
use Rattle.page_crew.specs.Locking.{IsKeptBoard, ShowsMoments}
use Rattle.page_crew.specs.Owned.{page_of, ScrapesByCrew}

-- what a scrape shows, of which the page behind it is known
pub shows_moments : {N C H G : ℕ} (old new : PageCrew N C H G) (r : Result Scraped NoScrape) → ScrapesByCrew old new r
    → IsPage (page_of new) → All IsKeptBoard (page_of new).boards → IfOk r (ShowsMoments N C H G)
shows_moments old new (Ok whole) did page boards = ∣ record {
  before = page_of old;
  after = page_of new;
  shows = did.0.1;
  kept = record { page_is = page; boards = boards };
} ∣₁
shows_moments old new (Err why) did page boards = tt
