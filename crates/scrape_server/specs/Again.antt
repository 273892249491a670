-- A scrape that is asked for again where a scan was given up.
use Rattle.std.specs.Prelude.{ℕ, zero, suc, ◌⊎◌, Result, Ok, Err}
use Rattle.expo_text.specs.Scraped.{Scraped}
use Rattle.scrape_http.specs.declared.source.NoScrape.{NoScrape}
use Rattle.scrape_http.specs.declared.source.NoScrape.TheVariants.{Contended, NoMemory}

-- no scan was given up
abbrev pub IsDone : Result Scraped NoScrape → Type 0
IsDone (Ok scrape) = Unit {0}
IsDone (Err NoMemory) = Unit {0}
IsDone (Err Contended) = ⊥

module _ {S : Type 0} (gave : S → S → Result Scraped NoScrape → Type 0) where
  -- the first answer by which no scan was given up, of at most so many more askings; or else the last one
  abbrev pub AsksAgain : (more : ℕ) → (before after : S) → Result Scraped NoScrape → Type 0
  AsksAgain zero before after answer = gave before after answer
  AsksAgain (suc more) before after answer = (IsDone answer × gave before after answer)
      ⊎ ((mid : S) × gave before mid (Err Contended) × AsksAgain more mid after answer)
