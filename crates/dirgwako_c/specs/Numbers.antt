-- The numbers of a moment as C has them, and what the calls that read them come to.
use Rattle.std.specs.Prelude.{◌≡◌, ◌⊎◌, ℕ, ◌≤◌, List, ◌∷◌, ◌++◌, length, slice_get, slice_set, Some, IsSomeAnd, Result, Ok, Err}
use Rattle.expo_text.specs.Scraped.{Scraped}
use Rattle.register_rule.specs.declared.view.Answer.{Answer}
use Rattle.registry_state.specs.Journal.{scrapes}
use Rattle.registry_state.specs.Kept.{RegistryView}
use Rattle.scrape_http.specs.declared.source.NoScrape.{NoScrape}
use Rattle.scrape_http.specs.declared.source.NoScrape.TheVariants.{NoMemory, Contended}
use Rattle.page_crew.specs.Owned.{PageDid}
use Rattle.page_crew.specs.Shared.{recorded_in, quit_in, gave_in, gave_up_in}
use Rattle.page_crew.specs.declared.shared_scanner.SharedScanner.{SharedScanner}
use Rattle.scrape_page.specs.Scraping.{BoardScrapes}
use Rattle.dirgwako_c.specs.Registries.{IsHandedOver, grouped_in, owner_in, page_in, SparesStay, TellsNobody}
use Rattle.dirgwako_c.specs.declared.held.HeldRegistry.{HeldRegistry}

-- the numbers of a moment: the id of the board, how often each worker had published, and the totals of all words of a row
abbrev pub numbers_of : (id : ℕ) → Answer → List ℕ
numbers_of id moment = id ∷ (moment.vector ++ moment.totals)

-- the number of each reason why there is no scrape
abbrev pub no_scrape_number : NoScrape → ℕ
no_scrape_number NoMemory = 6
no_scrape_number Contended = 14

-- what scans a board of this geometry
abbrev pub OneScanner : (N C H G : ℕ) → Type 0
OneScanner N C H G = SharedScanner N C H G

-- a board of this geometry, with its registry
abbrev pub Board : (N C H G : ℕ) → Type 0
Board N C H G = RegistryView (OneScanner N C H G)

module _ {N C H G : ℕ} where
  -- one scrape of a board, asked for up to three times more where a scan was given up, and its answer
  abbrev pub ScrapesAlone : (before after : Board N C H G) → Result Scraped NoScrape → Type 0
  ScrapesAlone = BoardScrapes N C H G recorded_in quit_in gave_in gave_up_in

  module _ (before after : Board N C H G) where
    -- a scrape was made; or there is none, for this reason
    abbrev pub AsksScrape : Result (Unit {0}) NoScrape → Type 0
    AsksScrape (Ok done) = (scrape : Scraped) × ScrapesAlone before after (Ok scrape)
    AsksScrape (Err why) = ScrapesAlone before after (Err why)

    -- the numbers of the newest scrape that is kept were handed over; or there is none, and the buffer and the length are as they
    -- were
    abbrev pub ReadsNewest : (answer : ℕ) → (had has : List ℕ) → (had_len has_len : ℕ) → Result (Unit {0}) NoScrape → Type 0
    ReadsNewest answer had has had_len has_len (Ok done) = (moment : Answer) × (after.state.last ≡ Some moment)
        × IsHandedOver (numbers_of after.id moment) answer had has has_len
    ReadsNewest answer had has had_len has_len (Err why) = (answer ≡ no_scrape_number why) × (has ≡ had) × (has_len ≡ had_len)

    -- a scrape was made, which is the newest that is kept, and its numbers were handed over; or there is none
    pub record ReadsBoard (answer : ℕ) (had has : List ℕ) (had_len has_len : ℕ) : Type 0 where
      pub made : Result (Unit {0}) NoScrape
      pub asks : AsksScrape made
      pub reads : ReadsNewest answer had has had_len has_len made

  -- the board of this number did this, nothing else of the page has changed, and no scraper was told anything
  pub record BoardDid (number : ℕ) (before after : HeldRegistry N C H G) (Did : Board N C H G → Board N C H G → Type 0) : Type 0
    where
      pub old : Board N C H G
      pub new : Board N C H G
      pub at : slice_get (page_in before).boards number ≡ Some old
      pub page : PageDid (owner_in before) (owner_in after) (λ a b. b ≡ record a { boards = slice_set a.boards number new })
      pub untold : TellsNobody (owner_in before) (owner_in after)
      pub did : Did old new

  -- no board has this number (42), and the page is as it was
  abbrev pub HasNoBoard : (number answer : ℕ) → (before after : HeldRegistry N C H G) → Type 0
  HasNoBoard number answer before after = (length (page_in before).boards ≤ number) × (answer ≡ 42) × (grouped_in after ≡
      grouped_in before)

  -- a scrape of the board of this number alone was made, and its numbers were handed over, or there is none; or no board has this
  -- number, and the buffer and the length are as they were
  abbrev pub Reads : (number answer : ℕ) → (before after : HeldRegistry N C H G) → (had has : List ℕ) → (had_len has_len : ℕ) →
      Type 0
  Reads number answer before after had has had_len has_len = SparesStay before after
      × (BoardDid number before after (λ old new. ReadsBoard old new answer had has had_len has_len)
      ⊎ (HasNoBoard number answer before after × (has ≡ had) × (has_len ≡ had_len)))

  -- so many scrapes are kept of the board of this number; or no board has it
  abbrev pub TellsKept : (number answer : ℕ) → (before after : HeldRegistry N C H G) → (had has : ℕ) → Type 0
  TellsKept number answer before after had has = SparesStay before after
      × (((grouped_in after ≡ grouped_in before) × (answer ≡ 0) × IsSomeAnd (slice_get (page_in before).boards number)
      (λ (board : Board N C H G). has ≡ length (scrapes board.journal)))
      ⊎ (HasNoBoard number answer before after × (has ≡ had)))

  -- the numbers of the kept scrape of this place, of this board, were handed over; or there is none (40), and the buffer and the
  -- length are as they were
  abbrev pub ReadsAt : (board : Board N C H G) → (place answer : ℕ) → (had has : List ℕ) → (had_len has_len : ℕ) → Type 0
  ReadsAt board place answer had has had_len has_len =
      ((length (scrapes board.journal) ≤ place) × (answer ≡ 40) × (has ≡ had) × (has_len ≡ had_len))
      ⊎ ((moment : Answer) × (slice_get (scrapes board.journal) place ≡ Some moment)
      × IsHandedOver (numbers_of board.id moment) answer had has has_len)

  -- what is held is as it was, and the numbers of the kept scrape of this place, of the board of this number, were handed over,
  -- or there is none; or no board has this number
  abbrev pub ReadsKept : (number place answer : ℕ) → (before after : HeldRegistry N C H G) → (had has : List ℕ) → (had_len has_len
      : ℕ) → Type 0
  ReadsKept number place answer before after had has had_len has_len = SparesStay before after
      × (((grouped_in after ≡ grouped_in before) × IsSomeAnd (slice_get (page_in before).boards number)
      (λ (board : Board N C H G). ReadsAt board place answer had has had_len has_len))
      ⊎ (HasNoBoard number answer before after × (has ≡ had) × (has_len ≡ had_len)))
