use Rattle.std.proofs.Common.{◌≡◌, ℕ, Result, Ok, Err, IfOk}
use Rattle.std.specs.Prelude.{Vec}
use Rattle.std.specs.declared.alloc.Global.{Global}
use Rattle.expo_text.specs.Scraped.{Scraped}
use Rattle.scrape_http.specs.declared.source.NoScrape.{NoScrape}
use Rattle.scrape_server.proofs.Askings.{at_end}
use Rattle.dirgwako.specs.declared.printing.TextFault.{TextFault}
use Rattle.dirgwako.specs.Printing.{IsText, ShowsText}
use Rattle.dirgwako.proofs.printing.scrape_text.Goals as goal

-- of a source whose scrapes show this the text does, too
shows_too : {S : Type 0} (gave : S → S → Result Scraped NoScrape → Type 0) (again : ℕ) (shows : Scraped → Type 0)
    (before after : S) (r : Result (Vec ℕ Global) TextFault) → IfOk r (λ bytes. IsText gave again before after bytes.items)
    → ((a b : S) (scrape : Scraped) → gave a b (Ok scrape) → shows scrape) → IfOk r (λ bytes. ShowsText shows bytes.items)
shows_too gave again shows before after (Ok bytes) (scrape, asked, is) given =
    let last = at_end gave again before after (Ok scrape) asked in
    record { scrape = scrape; shown = given last.0 after scrape last.1; text_is = is }
shows_too gave again shows before after (Err fault) is given = tt

pub returns : goal.returns
returns g c = record {
  shows = shows_too (λ a b answer. (b ≡ a) × IfOk answer g.X.Shared.shows) g.X.Shared.again g.X.Shared.shows _ _
      c.text_from.result
      c.text_from.ensures.text (λ a b scrape given. given.1);
}
