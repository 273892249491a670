-- What contracts see of a page with all who work on its boards, and what its calls do to it. What its scrapers are told is said
-- in Told.
use Rattle.std.specs.Prelude.{◌≡◌, ◌≢◌, ℕ, ◌+◌, ◌<◌, ◌≤◌, ◌⊎◌, List, [], ◌∷◌, ◌++◌, Some, Result, length, slice_get, All}
use Rattle.metric_desc.specs.declared.kind.Kind.{Kind}
use Rattle.expo_text.specs.Scraped.{Scraped}
use Rattle.registry_state.specs.Kept.{RegistryView}
use Rattle.registry_state.specs.Replay.{slots}
use Rattle.registry_state.specs.declared.handle.Handle.{Handle}
use Rattle.rtrb.specs.Ring.{sent}
use Rattle.scrape_http.specs.declared.source.NoScrape.{NoScrape}
use Rattle.scrape_page.specs.Families.{PageView}
use Rattle.scrape_page.specs.Calls.{IsGivenOnPage, LeavesPage}
use Rattle.scrape_page.specs.Faults.{IsPageChildFault}
use Rattle.scrape_page.specs.declared.fault.PageChildFault.{PageChildFault}
use Rattle.scrape_page.specs.declared.fault.PageChildFault.TheVariants.{Full, NoMemory}
use Rattle.scrape_page.specs.Scraping.{PageScrapes}
use Rattle.scrape_page.specs.Windows.{page_with_window}
use Rattle.page_crew.specs.declared.owner.PageCrew.{PageCrew}
use Rattle.page_crew.specs.declared.page_recorder.PageRecorder.{PageRecorder}
use Rattle.page_crew.specs.declared.shared_recorder.SharedRecorder.{SharedRecorder}
use Rattle.page_crew.specs.declared.shared_scanner.SharedScanner.{SharedScanner}
use Rattle.page_crew.specs.Held.{HasNone}
use Rattle.page_crew.specs.Opened.{IsNewBoard}
use Rattle.page_crew.specs.Rings.{Ring, AreGiven, ArePaired}
use Rattle.page_crew.specs.Shared.{recorded_in, quit_in, gave_in, gave_up_in}

module _ {N C H G : ℕ} where
  -- the page
  abbrev pub page_of : PageCrew N C H G → PageView (SharedScanner N C H G)
  page_of c = c.page

  -- what was given to the recorders, each by its ring
  abbrev pub rings_of : PageCrew N C H G → List (Ring N C H G)
  rings_of c = c.rings.items

  -- the id of the first board; the others follow it
  abbrev pub first_of : PageCrew N C H G → ℕ
  first_of c = c.first

  -- how many scrapes each board keeps
  abbrev pub window_of : PageCrew N C H G → ℕ
  window_of c = c.window

  -- the first id is the same, and how many scrapes each board keeps
  abbrev pub IsSameOwner : (old new : PageCrew N C H G) → Type 0
  IsSameOwner old new = (first_of new ≡ first_of old) × (window_of new ≡ window_of old)

  -- A board came, behind the others, on which nothing is registered and nothing was counted; its recorders were given to the
  -- rings, that of each worker to the ring of its number
  pub record IsGrown (old new : PageCrew N C H G) : Type 0 where
    pub owner : IsSameOwner old new
    pub board : RegistryView (SharedScanner N C H G)
    pub recorders : List (SharedRecorder N C H G)
    pub is_new : IsNewBoard (first_of old + length (page_of old).boards) (window_of old) board recorders
    pub page : page_of new ≡ record (page_of old) { boards = (page_of old).boards ++ board ∷ [] }
    pub given : AreGiven (rings_of old) (rings_of new) recorders

  -- nothing has changed, of what the recorders were given neither
  abbrev pub IsUnchanged : (old new : PageCrew N C H G) → Type 0
  IsUnchanged old new = IsSameOwner old new × (page_of new ≡ page_of old) × (rings_of new ≡ rings_of old)

  -- the page did this, and nothing else has changed, but for what scrapers were told
  abbrev pub PageDid : (old new : PageCrew N C H G) → (PageView (SharedScanner N C H G) → PageView (SharedScanner N C H G) → Type
      0) → Type 0
  PageDid old new Did = IsSameOwner old new × Did (page_of old) (page_of new) × (rings_of new ≡ rings_of old)

  -- each board keeps so many scrapes from now on, also one that comes later; nothing else has changed
  pub record KeepsFromNow (window : ℕ) (old new : PageCrew N C H G) : Type 0 where
    pub first_is : first_of new ≡ first_of old
    pub window_is : window_of new ≡ window
    pub page : page_of new ≡ page_with_window window (page_of old)
    pub rings : rings_of new ≡ rings_of old

  -- A page of one board, without families, the first of these ids, on which nothing was counted; each board keeps so many
  -- scrapes. Each ring was given the board's recorder of its number, and is that of the page's recorder of its number; there are
  -- as many of these, and they know no board yet
  pub record IsOpened (first window : ℕ) (crew : PageCrew N C H G) (recorders : List (PageRecorder N C H G)) : Type 0 where
    pub first_is : first_of crew ≡ first
    pub window_is : window_of crew ≡ window
    pub board : RegistryView (SharedScanner N C H G)
    pub theirs : List (SharedRecorder N C H G)
    pub is_new : IsNewBoard first window board theirs
    pub page : page_of crew ≡ record { boards = board ∷ []; families = [] }
    pub rings : length (rings_of crew) ≡ N
    pub given : (k : ℕ) (p : Ring N C H G) (r : SharedRecorder N C H G) → slice_get (rings_of crew) k ≡ Some p
        → slice_get theirs k ≡ Some r → sent p ≡ r ∷ []
    pub many : length recorders ≡ N
    pub none : All (HasNone first) recorders
    pub pairs : ArePaired (rings_of crew) recorders

  module _ (old new : PageCrew N C H G) (number : ℕ) where
    -- a board came, and then the child of these values was given by the page
    abbrev pub IsGivenFurther : (values : List (List ℕ)) → Handle → Type 0
    IsGivenFurther values handle = (mid : PageCrew N C H G) × IsGrown old mid
        × PageDid mid new (λ a b. IsGivenOnPage C H G a b number values handle)

    -- Why it was not, where no board had a free slot of this kind. No board may come, or none has a slot of the kind (22). Or one
    -- may and has, and there was no memory (6): for a board, and nothing has changed; or one came, and then for the child
    abbrev pub IsRefusedFurther : Kind → ℕ → PageChildFault → Type 0
    IsRefusedFurther kind many why =
        ((why ≡ Full kind many) × ((96 ≤ length (page_of old).boards) ⊎ (slots C H G kind ≡ 0)) × IsUnchanged old new)
        ⊎ ((why ≡ NoMemory) × (length (page_of old).boards < 96) × (0 < slots C H G kind) × (IsUnchanged old new
        ⊎ ((mid : PageCrew N C H G) × IsGrown old mid × PageDid mid new (λ a b. LeavesPage C H G a b number NoMemory))))

    -- the child of these values was given by the page; or no board had a free slot for it, one came, and then it was given
    abbrev pub IsGivenByCrew : (values : List (List ℕ)) → Handle → Type 0
    IsGivenByCrew values handle = PageDid old new (λ a b. IsGivenOnPage C H G a b number values handle)
        ⊎ ((kind : Kind) × (many : ℕ) × IsPageChildFault C H G (page_of old) number values (Full kind many)
        × IsGivenFurther values handle)

    -- why there is none: the page's refusal, but for want of slots; or no board had a free slot, and none came, or there was no
    -- memory
    abbrev pub IsRefusedByCrew : (values : List (List ℕ)) → PageChildFault → Type 0
    IsRefusedByCrew values why =
        (IsPageChildFault C H G (page_of old) number values why × ((kind : Kind) (many : ℕ) → why ≢ Full kind many)
        × PageDid old new (λ a b. LeavesPage C H G a b number why))
        ⊎ ((kind : Kind) × (many : ℕ) × IsPageChildFault C H G (page_of old) number values (Full kind many)
        × IsRefusedFurther kind many why)

  -- what one scrape does, and answers: that of the page, nothing else has changed, and no scraper was told anything
  abbrev pub ScrapesByCrew : (old new : PageCrew N C H G) → Result Scraped NoScrape → Type 0
  ScrapesByCrew old new result = PageDid old new (λ a b. PageScrapes N C H G recorded_in quit_in gave_in gave_up_in a b result)
      × (new.news.items ≡ old.news.items)
