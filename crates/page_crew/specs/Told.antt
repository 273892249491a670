-- What a page's owner has told its scrapers.
use Rattle.std.specs.Prelude.{◌≡◌, ◌≢◌, ℕ, ◌+◌, ◌⊎◌, List, [], ◌∷◌, ◌++◌, length, slice_get, Option, Some, None}
use Rattle.std.specs.Arc.{arc_value}
use Rattle.metric_desc.specs.Desc.{Descriptor}
use Rattle.registry_state.specs.Kept.{RegistryView}
use Rattle.registry_state.specs.declared.handle.Handle.{Handle}
use Rattle.scrape_page.specs.Calls.{WasFound, WasMadeThere, WasMadeFurther, LeavesPage}
use Rattle.scrape_page.specs.declared.fault.PageChildFault.TheVariants.{NoMemory}
use Rattle.scrape_page.specs.Families.{PageFamily, PageView}
use Rattle.page_crew.specs.Following.{AreScrapers}
use Rattle.page_crew.specs.News.{NewsRing, AreTold, IsBoardNews, IsFamilyNews, IsChildNews}
use Rattle.page_crew.specs.Owned.{page_of, first_of, IsGrown, PageDid}
use Rattle.page_crew.specs.declared.owner.PageCrew.{PageCrew}
use Rattle.page_crew.specs.declared.page_scraper.PageScraper.{PageScraper}
use Rattle.page_crew.specs.declared.shared_scanner.SharedScanner.{SharedScanner}

-- how many parts a family has; none where there is none
abbrev pub parts_there : Option PageFamily → ℕ
parts_there None = 0
parts_there (Some it) = length it.parts

-- how many the family of this number has
abbrev pub parts_in : {S : Type 0} → PageView S → (number : ℕ) → ℕ
parts_in page number = parts_there (slice_get page.families number)

module _ {N C H G : ℕ} where
  -- what was told to the scrapers, each by its ring
  abbrev pub news_of : PageCrew N C H G → List (NewsRing N C H G)
  news_of c = c.news.items

  -- a board came, behind the others, and each scraper was told of it
  pub record HasToldBoard (old new : PageCrew N C H G) : Type 0 where
    pub board : RegistryView (SharedScanner N C H G)
    pub page : page_of new ≡ record (page_of old) { boards = (page_of old).boards ++ board ∷ [] }
    pub told : AreTold (IsBoardNews (arc_value board.source.board) (first_of old + length (page_of old).boards)) (news_of old)
        (news_of new)

  -- each scraper was told of a family of this descriptor in this group
  abbrev pub HasToldFamily : (old new : PageCrew N C H G) → Descriptor → (group : ℕ) → Type 0
  HasToldFamily old new desc group = AreTold (IsFamilyNews desc group) (news_of old) (news_of new)

  module _ (old new : PageCrew N C H G) (number : ℕ) (values : List (List ℕ)) (handle : Handle) where
    -- the child was there, and no scraper was told anything; or it was made on the page, and each scraper was told of it
    abbrev pub HasToldChild : Type 0
    HasToldChild = (WasFound C H G (page_of old) (page_of new) number values handle × (news_of new ≡ news_of old))
        ⊎ ((WasMadeThere C H G (page_of old) (page_of new) number values handle
        ⊎ WasMadeFurther C H G (page_of old) (page_of new) number values handle)
        × AreTold (IsChildNews number values) (news_of old) (news_of new))

  -- a board came, and each scraper was told of it
  pub record GrewAndTold (old new : PageCrew N C H G) : Type 0 where
    pub grown : IsGrown old new
    pub told : HasToldBoard old new

  -- a board came, of which each scraper was told, and then of the child
  abbrev pub HasToldFurther : (old new : PageCrew N C H G) → (number : ℕ) → (values : List (List ℕ)) → Handle → Type 0
  HasToldFurther old new number values handle =
      (mid : PageCrew N C H G) × GrewAndTold old mid × HasToldChild mid new number values handle

  -- each scraper was told of the child, if it was made, and before it of the board, if one came for it
  abbrev pub HasToldGiven : (old new : PageCrew N C H G) → (number : ℕ) → (values : List (List ℕ)) → Handle → Type 0
  HasToldGiven old new number values handle =
      HasToldChild old new number values handle ⊎ HasToldFurther old new number values handle

  -- Where a child of the family of this number was refused: no board came, and no scraper was told anything; or one came for it,
  -- of which each was told, and of nothing else
  abbrev pub HasToldBoards : (old new : PageCrew N C H G) → (number : ℕ) → Type 0
  HasToldBoards old new number = ((length (page_of new).boards ≡ length (page_of old).boards) × (news_of new ≡ news_of old))
      ⊎ ((mid : PageCrew N C H G) × GrewAndTold old mid × PageDid mid new (λ a b. LeavesPage C H G a b number NoMemory)
      × (news_of new ≡ news_of mid))

  -- Where a child was refused: the family has as many parts as it had, and no scraper was told anything, but of a board that
  -- came. Or it took a part for the child, of which no scraper hears, and no scraper is told anything from now on
  abbrev pub HasToldRefused : (old new : PageCrew N C H G) → (number : ℕ) → Type 0
  HasToldRefused old new number = ((parts_in (page_of new) number ≡ parts_in (page_of old) number) × HasToldBoards old new number)
      ⊎ ((parts_in (page_of new) number ≢ parts_in (page_of old) number) × (news_of new ≡ []))

  -- so many scrapers, each with the other end of a ring of the owner's, which has told them nothing, and with a page of a
  -- registry of its own over the owner's first board
  pub record AreAppointed (many : ℕ) (crew : PageCrew N C H G) (recruits : List (PageScraper N C H G)) : Type 0 where
    pub board : RegistryView (SharedScanner N C H G)
    pub first : slice_get (page_of crew).boards 0 ≡ Some board
    pub scrapers : AreScrapers many (arc_value board.source.board) (first_of crew) (news_of crew) recruits
