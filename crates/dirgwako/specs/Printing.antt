-- The text of a scrape that is asked for again where a scan was given up, and why there is none.
use Rattle.std.specs.Prelude.{◌≡◌, ℕ, ◌⊎◌, List, Option, Some, None, Result, Ok, Err}
use Rattle.expo_text.specs.Scraped.{Scraped}
use Rattle.expo_text.specs.Shown.{shown_text}
use Rattle.scrape_http.specs.declared.source.NoScrape.{NoScrape}
use Rattle.scrape_server.specs.Again.{AsksAgain}
use Rattle.scrape_server.specs.Scrapes.{Scrapes}
use Rattle.dirgwako.specs.declared.printing.TextFault.{TextFault}
use Rattle.dirgwako.specs.declared.printing.TextFault.TheVariants.{NoMemory, Contended}
use Rattle.dirgwako.specs.declared.printing.PrintFault.{PrintFault}
use Rattle.dirgwako.specs.declared.printing.PrintFault.TheVariants.{Text, Output}
use Rattle.register_rule.specs.declared.view.Answer.{Answer}
use Rattle.snapshot_scan.specs.Scanners.{recorded_in}
use Rattle.scrape_server.specs.Scans.{quit_in, gave_in, gave_up_in}
use Rattle.snapshot_scan.specs.declared.scanner.Scanner.{Scanner}
use Rattle.registry_state.specs.Kept.{IsKept, RegistryView}
use Rattle.registry_state.specs.Shown.{IsShown}
use Rattle.scrape_http.specs.declared.source.NoScrape.TheVariants as none

-- the number of each fault
abbrev pub text_fault_number : TextFault → ℕ
text_fault_number NoMemory = 6
text_fault_number Contended = 14

-- the number of each fault of printing; where the output fails there is none
abbrev pub print_fault_number : PrintFault → Option ℕ
print_fault_number (Text fault) = Some (text_fault_number fault)
print_fault_number Output = None

module _ {S : Type 0} (gave : S → S → Result Scraped NoScrape → Type 0) (again : ℕ) (before after : S) where
  -- these bytes are the text of the scrape that the source gave, asked at most so many times more where a scan was given up
  abbrev pub IsText : List ℕ → Type 0
  IsText bytes = (scrape : Scraped) × AsksAgain gave again before after (Ok scrape) × (bytes ≡ shown_text scrape)

  -- the source has no scrape; or it gave one, and 6 is of its text: that there was no memory for this no clause can say
  abbrev pub IsTextFault : TextFault → Type 0
  IsTextFault Contended = AsksAgain gave again before after (Err none.Contended)
  IsTextFault NoMemory = AsksAgain gave again before after (Err none.NoMemory)
      ⊎ ((scrape : Scraped) × AsksAgain gave again before after (Ok scrape))

-- these bytes are the text of a scrape that shows this
pub record ShowsText (shows : Scraped → Type 0) (bytes : List ℕ) : Type 0 where
  pub scrape : Scraped
  pub shown : shows scrape
  pub text_is : bytes ≡ shown_text scrape

-- why there is no last text: what comes back was asked four times, and gave each scan up; that there was no memory no clause can
-- say
abbrev pub IsLastFault : {N C H G : ℕ} → TextFault → RegistryView (Scanner N C H G) → Type 0
IsLastFault {N} {C} {H} {G} Contended registry = (before : RegistryView (Scanner N C H G))
    × AsksAgain (Scrapes N C H G recorded_in quit_in gave_in gave_up_in) 3 before registry (Err none.Contended)
IsLastFault NoMemory registry = Unit {0}

-- the journal replays to what the registry holds; the scrapes that it keeps are at most the window, the last of what
-- its reader recorded, and moments of one history of publishes, in order; and these bytes are the text of its
-- families at the newest of them
pub record IsLastText {N C H G : ℕ} (bytes : List ℕ) (registry : RegistryView (Scanner N C H G)) : Type 0 where
  pub kept : IsKept N C H G (recorded_in registry.source) registry.journal registry.window registry.state
  pub answer : Answer
  pub newest : registry.state.last ≡ Some answer
  pub scrape : Scraped
  pub shown : IsShown C H registry.state.families answer scrape
  pub text_is : bytes ≡ shown_text scrape
