-- The text of what a registry has just kept.
use Rattle.std.proofs.Common.{◌≡◌, ℕ, List, Ok, sym, ap, subst}
use Rattle.expo_text.specs.Scraped.{Scraped}
use Rattle.expo_text.specs.Shown.{shown_text}
use Rattle.scrape_server.specs.Scrapes.{Scrapes, ShowsScrape}
use Rattle.snapshot_scan.specs.Scanners.{recorded_in}
use Rattle.snapshot_scan.specs.declared.contended.Contended.{Contended}
use Rattle.snapshot_scan.specs.declared.scanner.Scanner.{Scanner}
use Rattle.register_rule.specs.declared.view.Answer.{Answer}
use Rattle.registry_state.specs.Kept.{IsKept, RegistryView}
use Rattle.registry_state.specs.Replay.{State}
use Rattle.registry_state.specs.Shown.{IsShown}
use Rattle.dirgwako.specs.Printing.{IsLastText}
use Rattle.dirgwako.specs.Printing.{IsText}
use Rattle.scrape_server.proofs.Askings.{at_end}

-- the text of what a registry has just kept
module _ {N C H G : ℕ} (quit : Scanner N C H G → ℕ) (gave : Scanner N C H G → Scanner N C H G → Answer → Type 0)
    (gave_up : Scanner N C H G → Scanner N C H G → Contended → Type 0) where
  pub last_text_of : (old new : RegistryView (Scanner N C H G)) (scrape : Scraped) (bytes : List ℕ)
      → ShowsScrape N C H G recorded_in quit gave gave_up old new scrape
      → IsKept N C H G (recorded_in new.source) new.journal new.window new.state → bytes ≡ shown_text scrape → IsLastText bytes
      new
  last_text_of old new scrape bytes shows kept is = record {
    kept = kept;
    answer = shows.kept.answer;
    newest = ap (λ (s : State). s.last) shows.kept.state;
    scrape = scrape;
    shown = subst (λ (s : State). IsShown C H s.families shows.kept.answer scrape) (sym shows.kept.state) shows.shown;
    text_is = is;
  }

  -- and what was asked again
  pub last_text_seen : (old new : RegistryView (Scanner N C H G)) (bytes : List ℕ)
      → IsText (Scrapes N C H G recorded_in quit gave gave_up) 3 old new bytes
      → IsKept N C H G (recorded_in new.source) new.journal new.window new.state → IsLastText bytes new
  last_text_seen old new bytes (scrape, asked, is) kept =
      let last = at_end (Scrapes N C H G recorded_in quit gave gave_up) 3 old new (Ok scrape) asked in
      last_text_of last.0 new scrape bytes last.1 kept is
