-- What a page's owner tells its scrapers, each by a ring of its own, and what a scraper does by it to a page of its own.
use Rattle.std.specs.Prelude.{◌≡◌, ◌≢◌, ℕ, ◌<◌, ◌⊎◌, List, [], ◌∷◌, ◌++◌, length, map, All, Box}
use Rattle.std.specs.declared.alloc.Global.{Global}
use Rattle.std.specs.Arc.{arc_value}
use Rattle.metric_desc.specs.Desc.{Descriptor}
use Rattle.register_rule.specs.declared.board.Board.{Board}
use Rattle.registry_state.specs.Kept.{RegistryView}
use Rattle.registry_state.specs.Replay.{nothing}
use Rattle.registry_state.specs.declared.handle.Handle.{Handle}
use Rattle.rtrb.specs.Ring.{known_free}
use Rattle.rtrb.specs.declared.producer.Producer.{Producer}
use Rattle.rtrb.specs.declared.consumer.Consumer.{Consumer}
use Rattle.rtrb.specs.declared.AnyItems.{AnyItems}
use Rattle.scrape_page.specs.Calls.{AddsFamily, IsGivenOnPage, LeavesPage}
use Rattle.scrape_page.specs.Families.{PageView}
use Rattle.scrape_page.specs.Faults.{IsFresh, IsBoardFault, IsPageFamilyFault, IsPageChildFault}
use Rattle.scrape_page.specs.Rooms.{IsHome}
use Rattle.scrape_page.specs.declared.fault.BoardFault.{BoardFault}
use Rattle.scrape_page.specs.declared.fault.BoardFault.TheVariants as OfBoard
use Rattle.scrape_page.specs.declared.fault.PageFamilyFault.{PageFamilyFault}
use Rattle.scrape_page.specs.declared.fault.PageFamilyFault.TheVariants as OfFamily
use Rattle.scrape_page.specs.declared.fault.PageChildFault.{PageChildFault}
use Rattle.scrape_page.specs.declared.fault.PageChildFault.TheVariants as OfChild
use Rattle.page_crew.specs.Rings.{AreGiven}
use Rattle.page_crew.specs.declared.news.PageNews.{PageNews}
use Rattle.page_crew.specs.declared.news.PageNews.TheVariants as Tells
use Rattle.page_crew.specs.declared.shared_scanner.SharedScanner.{SharedScanner}

-- the owner's end of a ring of news
abbrev pub NewsRing : (N C H G : ℕ) → Type 0
NewsRing N C H G = Producer (Box (PageNews N C H G) Global) Global AnyItems

-- the scraper's end of it
abbrev pub NewsFeed : (N C H G : ℕ) → Type 0
NewsFeed N C H G = Consumer (Box (PageNews N C H G) Global) Global AnyItems

-- a scraper's page
abbrev pub ScraperView : (N C H G : ℕ) → Type 0
ScraperView N C H G = PageView (SharedScanner N C H G)

module _ {N C H G : ℕ} where
  -- what stands in a box
  abbrev pub unboxed : Box (PageNews N C H G) Global → PageNews N C H G
  unboxed box = box.value

  -- that the board of this registry came
  abbrev pub of_board : RegistryView (SharedScanner N C H G) → PageNews N C H G
  of_board registry = Tells.Board registry

  -- a registry of this id over this board, which keeps one scrape; nothing was registered, and no scrape is kept
  pub record IsOver (board : Board N C H G) (id : ℕ) (registry : RegistryView (SharedScanner N C H G)) : Type 0 where
    pub id_is : registry.id ≡ id
    pub window_is : registry.window ≡ 1
    pub journal : registry.journal ≡ []
    pub state : registry.state ≡ nothing
    pub board_is : arc_value registry.source.board ≡ board

  -- it says that this board came, of this id
  abbrev pub IsBoardNews : (board : Board N C H G) → (id : ℕ) → PageNews N C H G → Type 0
  IsBoardNews board id (Tells.Board registry) = IsOver board id registry
  IsBoardNews board id (Tells.Family desc group) = ⊥
  IsBoardNews board id (Tells.Child family values) = ⊥

  -- it says that a family of this descriptor was registered in this group
  abbrev pub IsFamilyNews : Descriptor → (group : ℕ) → PageNews N C H G → Type 0
  IsFamilyNews desc group (Tells.Board registry) = ⊥
  IsFamilyNews desc group (Tells.Family desc' group') = (desc' ≡ desc) × (group' ≡ group)
  IsFamilyNews desc group (Tells.Child family values) = ⊥

  -- it says that a child of these values was made, of the family of this number
  abbrev pub IsChildNews : (number : ℕ) → (values : List (List ℕ)) → PageNews N C H G → Type 0
  IsChildNews number values (Tells.Board registry) = ⊥
  IsChildNews number values (Tells.Family desc group) = ⊥
  IsChildNews number values (Tells.Child family values') = (family.number ≡ number) × (values'.items ≡ values)

  -- there is one thing to tell for each ring, which says this, and each ring has room for it
  pub record AreReady (Says : PageNews N C H G → Type 0) (rings : List (NewsRing N C H G)) (news : List (Box (PageNews N C H G)
      Global))
      : Type 0 where
    pub many : length news ≡ length rings
    pub room : All (λ (p : NewsRing N C H G). 0 < known_free p) rings
    pub says : All (λ (it : Box (PageNews N C H G) Global). Says (unboxed it)) news

  -- there is one thing to tell for each ring, the next of these boards, and each ring has room for it
  pub record AreBoardNews (registries : List (RegistryView (SharedScanner N C H G))) (rings : List (NewsRing N C H G))
      (news : List (Box (PageNews N C H G) Global)) : Type 0 where
    pub room : All (λ (p : NewsRing N C H G). 0 < known_free p) rings
    pub boards : map unboxed news ≡ map of_board registries

  -- each scraper was told one thing, which says this, behind what it was told before, and by the same ring
  pub record AreTold (Says : PageNews N C H G → Type 0) (old new : List (NewsRing N C H G)) : Type 0 where
    pub news : List (Box (PageNews N C H G) Global)
    pub given : AreGiven old new news
    pub says : All (λ (it : Box (PageNews N C H G) Global). Says (unboxed it)) news

  -- the page took this board, behind the others; or it refused it, for another reason than memory, and is as it was
  abbrev pub TakesBoard : RegistryView (SharedScanner N C H G) → (a b : ScraperView N C H G) → Type 0
  TakesBoard board a b =
      ((length a.boards < 96) × IsFresh a.boards board × (b ≡ record a { boards = a.boards ++ board ∷ [] }))
      ⊎ ((fault : BoardFault) × IsBoardFault a.boards board fault × (fault ≢ OfBoard.NoMemory) × (b ≡ a))

  -- a family of this descriptor was registered on the page in this group; or it refused it, for another reason than memory, and
  -- is as it was
  abbrev pub TakesFamily : Descriptor → (group : ℕ) → (a b : ScraperView N C H G) → Type 0
  TakesFamily desc group a b = ((home : ℕ) × IsHome C H G a desc.kind group home × AddsFamily a b desc group home)
      ⊎ ((fault : PageFamilyFault) × IsPageFamilyFault a.families desc fault × (fault ≢ OfFamily.NoMemory) × (b ≡ a))

  -- the child of these values was given by the page; or it refused it, for another reason than memory, and is as it was
  abbrev pub TakesChild : (number : ℕ) → (values : List (List ℕ)) → (a b : ScraperView N C H G) → Type 0
  TakesChild number values a b = ((handle : Handle) × IsGivenOnPage C H G a b number values handle)
      ⊎ ((fault : PageChildFault) × IsPageChildFault C H G a number values fault × (fault ≢ OfChild.NoMemory) × (b ≡ a))

  -- what was told was done on a page
  abbrev pub IsDone : PageNews N C H G → (a b : ScraperView N C H G) → Type 0
  IsDone (Tells.Board registry) a b = TakesBoard registry a b
  IsDone (Tells.Family desc group) a b = TakesFamily desc group a b
  IsDone (Tells.Child family values) a b = TakesChild family.number values.items a b

  -- all of it was, in order
  abbrev pub AreDone : List (PageNews N C H G) → (a b : ScraperView N C H G) → Type 0
  AreDone [] a b = b ≡ a
  AreDone (news ∷ rest) a c = (b : ScraperView N C H G) × IsDone news a b × AreDone rest b c

  -- it was begun, and there was no memory, where the page would have taken it: nothing has changed, but that a family may have
  -- taken a part for its child, without it
  abbrev pub IsBegun : PageNews N C H G → (a b : ScraperView N C H G) → Type 0
  IsBegun (Tells.Board registry) a b = IsBoardFault a.boards registry OfBoard.NoMemory × (b ≡ a)
  IsBegun (Tells.Family desc group) a b = IsPageFamilyFault a.families desc OfFamily.NoMemory × (b ≡ a)
  IsBegun (Tells.Child family values) a b = IsPageChildFault C H G a family.number values.items OfChild.NoMemory
      × LeavesPage C H G a b family.number OfChild.NoMemory
