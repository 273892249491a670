-- What contracts see of a scraper, and what it does.
use Rattle.std.specs.Prelude.{◌≡◌, ℕ, ◌⊎◌, List, [], ◌∷◌, ◌++◌, map, length, slice_get, All, Some, option_to_list, Box}
use Rattle.std.specs.Prelude.{Result, Err}
use Rattle.std.specs.declared.alloc.Global.{Global}
use Rattle.expo_text.specs.Scraped.{Scraped}
use Rattle.register_rule.specs.declared.board.Board.{Board}
use Rattle.registry_state.specs.Kept.{RegistryView}
use Rattle.rtrb.specs.Ring.{sent, received, known_items, known_free, IsPair, SameConsumer}
use Rattle.scrape_http.specs.declared.source.NoScrape.{NoScrape}
use Rattle.scrape_http.specs.declared.source.NoScrape.TheVariants.{NoMemory}
use Rattle.scrape_page.specs.Scraping.{PageScrapes}
use Rattle.page_crew.specs.News.{NewsRing, NewsFeed, ScraperView, unboxed, IsOver, AreDone, IsBegun}
use Rattle.page_crew.specs.Shared.{recorded_in, quit_in, gave_in, gave_up_in}
use Rattle.page_crew.specs.declared.news.PageNews.{PageNews}
use Rattle.page_crew.specs.declared.page_scraper.PageScraper.{PageScraper}
use Rattle.page_crew.specs.declared.shared_scanner.SharedScanner.{SharedScanner}

module _ {N C H G : ℕ} where
  -- its page
  abbrev pub page_in : PageScraper N C H G → ScraperView N C H G
  page_in s = s.page

  -- its end of the ring by which the owner tells it what came
  abbrev pub news_in : PageScraper N C H G → NewsFeed N C H G
  news_in s = s.news

  -- what it took out of the ring and could not do yet: one thing, or none
  abbrev pub held_in : PageScraper N C H G → List (PageNews N C H G)
  held_in s = option_to_list s.held

  -- It took what came out of its ring, which is the same, in order; of that, and of what it held before, it did all but what it
  -- holds now: its page became this one by it
  pub record HasFollowed (old new : PageScraper N C H G) (reached : ScraperView N C H G) : Type 0 where
    pub came : List (Box (PageNews N C H G) Global)
    pub done : List (PageNews N C H G)
    pub taken : received (news_in new) ≡ received (news_in old) ++ came
    pub all : held_in old ++ map unboxed came ≡ done ++ held_in new
    pub did : AreDone done (page_in old) reached
    pub ring : SameConsumer (news_in old) (news_in new)

  -- it did all that it knew of, and nothing is left
  pub record HasCaughtUp (old new : PageScraper N C H G) (reached : ScraperView N C H G) : Type 0 where
    pub followed : HasFollowed old new reached
    pub none_held : held_in new ≡ []
    pub none_known : known_items (news_in new) ≡ []

  -- It did a beginning of it. The next thing was begun, for which there was no memory, and it holds that
  pub record IsBehind (old new : PageScraper N C H G) : Type 0 where
    pub reached : ScraperView N C H G
    pub followed : HasFollowed old new reached
    pub next : PageNews N C H G
    pub held : held_in new ≡ next ∷ []
    pub begun : IsBegun next reached (page_in new)

  -- what one scrape does, and answers: it catches up, and then does what its page's scrape does; or there was no memory to catch
  -- up
  abbrev pub ScrapesByScraper : (old new : PageScraper N C H G) → Result Scraped NoScrape → Type 0
  ScrapesByScraper old new result =
      ((mid : ScraperView N C H G) × HasCaughtUp old new mid
      × PageScrapes N C H G recorded_in quit_in gave_in gave_up_in mid (page_in new) result)
      ⊎ ((result ≡ Err NoMemory) × IsBehind old new)

  -- it was told nothing yet, and has a page of one registry over this board, of this id
  pub record BeginsOn (board : Board N C H G) (id : ℕ) (s : PageScraper N C H G) : Type 0 where
    pub registry : RegistryView (SharedScanner N C H G)
    pub over : IsOver board id registry
    pub page : page_in s ≡ record { boards = registry ∷ []; families = [] }
    pub taken : received (news_in s) ≡ []
    pub held : held_in s ≡ []

  -- each ring and the scraper of its number have the two ends of one ring
  abbrev pub AreTuned : List (NewsRing N C H G) → List (PageScraper N C H G) → Type 0
  AreTuned rings scrapers = (k : ℕ) (p : NewsRing N C H G) (s : PageScraper N C H G) → slice_get rings k ≡ Some p
      → slice_get scrapers k ≡ Some s → IsPair p (news_in s)

  -- So many rings to which nothing was given, each with room for all that a page can ever tell, 95 boards, 128 families and 256
  -- children of each; and a scraper for each, with a page of a registry of its own over this board, of this id
  pub record AreScrapers (many : ℕ) (board : Board N C H G) (id : ℕ) (rings : List (NewsRing N C H G))
      (scrapers : List (PageScraper N C H G)) : Type 0 where
    pub rings_many : length rings ≡ many
    pub scrapers_many : length scrapers ≡ many
    pub untold : All (λ (p : NewsRing N C H G). sent p ≡ []) rings
    pub room : All (λ (p : NewsRing N C H G). known_free p ≡ 32991) rings
    pub begin : All (BeginsOn board id) scrapers
    pub pairs : AreTuned rings scrapers
