use Rattle.std.proofs.Common.{◌-◌}
use Rattle.std.specs.Prelude.{Result}
use Rattle.expo_text.specs.Scraped.{Scraped}
use Rattle.scrape_http.specs.declared.source.NoScrape.{NoScrape}
use Rattle.scrape_server.specs.Again.{AsksAgain}
use Rattle.scrape_server.proofs.again.scrape_again.Given as goal

abbrev pub invariant-loop-again : goal.invariant-loop-again
invariant-loop-again g l = (after : g.row.S.Denot) (answer : Result Scraped NoScrape)
    → AsksAgain g.S.ScrapeFrom.gave (g.S.ScrapeFrom.again - l._again) l.source after answer
    → AsksAgain g.S.ScrapeFrom.gave g.S.ScrapeFrom.again l.initial.source after answer
