use Rattle.std.proofs.Common.{◌-◌}
use Rattle.std.specs.Prelude.{Result}
use Rattle.expo_text.specs.Scraped.{Scraped}
use Rattle.registry_state.specs.Kept.{RegistryView}
use Rattle.scrape_http.specs.declared.source.NoScrape.{NoScrape}
use Rattle.scrape_server.specs.Again.{AsksAgain}
use Rattle.scrape_server.specs.Scrapes.{Scrapes}
use Rattle.scrape_page.proofs.keeping.keep_again.Given as goal

-- what is asked from here on, is asked of the board as it was
abbrev pub invariant-loop-again : goal.invariant-loop-again
invariant-loop-again g l = (after : RegistryView g.row.S.Denot) (answer : Result Scraped NoScrape)
    → AsksAgain (Scrapes g.row.N g.row.C g.row.H g.row.G g.S.Source.recorded g.S.Source.quit g.S.Source.gave g.S.Source.gave_up)
    (3 - l._again) l.board after answer
    → AsksAgain (Scrapes g.row.N g.row.C g.row.H g.row.G g.S.Source.recorded g.S.Source.quit g.S.Source.gave g.S.Source.gave_up)
    3 l.initial.board after answer
