-- What one connection does to the source of its scrape, and how many connections were replied to.
use Rattle.std.specs.Prelude.{◌≡◌, ℕ, zero, suc, ◌⊎◌, Option, Some, None, Result, Ok, Err}
use Rattle.expo_text.specs.Scraped.{Scraped}
use Rattle.scrape_http.specs.declared.serve.Served.{Served}
use Rattle.scrape_http.specs.declared.source.NoScrape.{NoScrape}
use Rattle.scrape_http.specs.declared.status.Status.{Status}
use Rattle.scrape_http.specs.declared.status.Status.TheVariants.{Success, Unavailable}
use Rattle.scrape_server.specs.Again.{AsksAgain}

module _ {S : Type 0} (gave : S → S → Result Scraped NoScrape → Type 0) (again : ℕ) (before after : S) where
  -- the source was asked once, and at most so many times more where a scan was given up, and answered by a scrape
  abbrev pub GaveScrape : Type 0
  GaveScrape = (scrape : Scraped) × AsksAgain gave again before after (Ok scrape)

  -- or it told why it has none
  abbrev pub GaveNone : Type 0
  GaveNone = (why : NoScrape) × AsksAgain gave again before after (Err why)

  -- a reply of this status: 200 of a scrape, 503 where there is none, and every other without asking
  abbrev pub AnswersBy : Status → Type 0
  AnswersBy Success = GaveScrape
  AnswersBy Unavailable = GaveNone
  AnswersBy _ = after ≡ before

  -- a reply; or none, before or after the source was asked
  abbrev pub Answers : Option Served → Type 0
  Answers (Some served) = AnswersBy served.status
  Answers None = (after ≡ before) ⊎ (GaveScrape ⊎ GaveNone)

module _ {S : Type 0} (answered : S → S → Option Served → Type 0) where
  -- so many connections were met, one after the other, and so many of them replied to
  abbrev pub AreAnswered : (connections replies : ℕ) → (before after : S) → Type 0
  AreAnswered zero replies before after = (replies ≡ 0) × (after ≡ before)
  AreAnswered (suc more) replies before after = (mid : S)
      × (((served : Served) × (fewer : ℕ) × (replies ≡ suc fewer) × AreAnswered more fewer before mid
      × answered mid after (Some served))
      ⊎ (AreAnswered more replies before mid × answered mid after None))

  -- so many connections were met, and then the next one was refused
  abbrev pub IsBroken : (failed : S → S → Type 0) → (connections : ℕ) → (before after : S) → Type 0
  IsBroken failed connections before after = (replies : ℕ) × (mid : S) × AreAnswered connections replies before mid
      × failed mid after
