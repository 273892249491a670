-- A scrape that is made, and that nobody is given.
use Rattle.std.specs.Prelude.{Result, Ok, Err}
use Rattle.expo_text.specs.Scraped.{Scraped}
use Rattle.scrape_http.specs.declared.source.NoScrape.{NoScrape}

-- it was made, and nobody was given it; or there is none, for this reason
abbrev pub Unshown : {X : Type 0} → (made : X → X → Result Scraped NoScrape → Type 0) → (old new : X) → Result (Unit {0}) NoScrape
    → Type 0
Unshown made old new (Ok done) = (scrape : Scraped) × made old new (Ok scrape)
Unshown made old new (Err why) = made old new (Err why)
