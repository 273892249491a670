-- What one scrape of a registry says, where a server asks for it.
use Rattle.std.specs.Prelude.{◌≡◌, ℕ, List, Result, Ok, Err}
use Rattle.expo_text.specs.Scraped.{Scraped}
use Rattle.register_rule.specs.declared.view.Answer.{Answer}
use Rattle.snapshot_scan.specs.declared.contended.Contended.{Contended}
use Rattle.registry_state.specs.Calls.{KeepsScrape}
use Rattle.registry_state.specs.Faults.{Leaves}
use Rattle.registry_state.specs.Kept.{RegistryView}
use Rattle.registry_state.specs.Shown.{IsShown}
use Rattle.registry_state.specs.declared.fault.ScrapeFault.{ScrapeFault}
use Rattle.registry_state.specs.declared.fault.ScrapeFault.TheVariants as fault
use Rattle.scrape_http.specs.declared.source.NoScrape.{NoScrape}
use Rattle.scrape_http.specs.declared.source.NoScrape.TheVariants as none

-- why there is no scrape, as a server is told
abbrev pub no_scrape_of : ScrapeFault → NoScrape
no_scrape_of (fault.Contended wrong) = none.Contended
no_scrape_of fault.NoMemory = none.NoMemory

module _ {S : Type 0} (n c h g : ℕ) (recorded : S → List Answer) (quit : S → ℕ) (gave : S → S → Answer → Type 0)
    (gave_up : S → S → Contended → Type 0) (old new : RegistryView S) where
  -- one scan gave an answer, which is kept, and the scrape shows the families at it
  pub record ShowsScrape (scrape : Scraped) : Type 0 where
    pub kept : KeepsScrape n c h g recorded gave old new
    pub quit_is : quit new.source ≡ quit old.source
    pub shown : IsShown c h old.state.families kept.answer scrape

  -- nothing was kept, for this reason
  pub record ShowsNoScrape (why : NoScrape) : Type 0 where
    pub wrong : ScrapeFault
    pub why_is : why ≡ no_scrape_of wrong
    pub leaves : Leaves n recorded quit gave_up old.source new.source wrong
    pub same : (new.journal ≡ old.journal) × (new.state ≡ old.state) × (new.id ≡ old.id) × (new.window ≡ old.window)

  -- what one scrape of a registry does, and answers
  abbrev pub Scrapes : Result Scraped NoScrape → Type 0
  Scrapes (Ok scrape) = ShowsScrape scrape
  Scrapes (Err why) = ShowsNoScrape why
