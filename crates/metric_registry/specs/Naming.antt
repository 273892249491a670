-- Which board a registry is of, and what it hands out.
use Rattle.std.specs.Prelude.{◌≡◌, ℕ, ◌<◌, [], ◌∷◌, ◌++◌, List, Option}
use Rattle.std.specs.Option.{ForSome}
use mathlib.Core.List.{IsPrefix}
use Rattle.atomic_table.specs.Seated.{TableId}
use Rattle.expo_text.specs.Scraped.{Scraped}
use Rattle.register_rule.specs.Seats.{board_id}
use Rattle.register_rule.specs.declared.board.Board.{Board}
use Rattle.register_rule.specs.declared.view.Answer.{Answer}
use Rattle.snapshot_scan.specs.Moments.{AreMoments}
use Rattle.snapshot_scan.specs.Scanners.{board_in}
use Rattle.snapshot_scan.specs.declared.scanner.Scanner.{Scanner}
use Rattle.registry_state.specs.Kept.{RegistryView}
use Rattle.registry_state.specs.Journal.{RegistryChange, Entry, changes}
use Rattle.registry_state.specs.Parts.{AreAccepted, families_after}
use Rattle.registry_state.specs.Shown.{IsShown}
use Rattle.registry_state.specs.declared.fault.ScrapeFault.{ScrapeFault}
use Rattle.registry_state.specs.declared.fault.ScrapeFault.TheVariants as Scrape
use Rattle.registry_state.specs.declared.handle.Handle.{Handle}

module _ {N C H G : ℕ} where
  -- what no other board has: its words
  abbrev pub name_of : Board N C H G → TableId
  name_of b = b.table.shared.table_id

  -- the board is the one that is named, if one is
  abbrev pub IsNamed : Option TableId → Board N C H G → Type 0
  IsNamed name b = ForSome name (λ n. name_of b ≡ n)

  -- the registry scans the board that is named, and has the id of the board that it scans
  abbrev pub IsOf : Option TableId → RegistryView (Scanner N C H G) → Type 0
  IsOf name r = IsNamed name (board_in r.source) × (r.id ≡ board_id (board_in r.source))

-- the handle has this id
abbrev pub HasId : (id : ℕ) → Handle → Type 0
HasId id (Handle.Counter counter) = counter.registry ≡ id
HasId id (Handle.Histogram hist) = hist.registry ≡ id
HasId id (Handle.Gauge gauge) = gauge.registry ≡ id

-- a journal's changes begin with these
abbrev pub BeginsWith : List RegistryChange → List Entry → Type 0
BeginsWith first journal = ∥ IsPrefix first (changes journal) ∥₁

-- the scrape shows the families that the first changes and some more made, at one moment of a history of publishes
pub record HasMoment (n c h g : ℕ) (first : List RegistryChange) (scrape : Scraped) : Type 0 where
  pub more : List RegistryChange
  pub accepted : AreAccepted n c h g [] (first ++ more)
  pub answer : Answer
  pub moment : AreMoments n c h g (answer ∷ [])
  pub shown : IsShown c h (families_after [] (first ++ more)) answer scrape

-- there is such a moment
abbrev pub ShowsMoment : (n c h g : ℕ) → (first : List RegistryChange) → Scraped → Type 0
ShowsMoment n c h g first scrape = ∥ HasMoment n c h g first scrape ∥₁

-- what a refused scrape says of itself: a worker that is there, and two numbers that rise
abbrev pub IsScrapeFault : (n : ℕ) → ScrapeFault → Type 0
IsScrapeFault n Scrape.NoMemory = Unit {0}
IsScrapeFault n (Scrape.Contended fault) = (fault.worker < n) × (fault.first < fault.last)
