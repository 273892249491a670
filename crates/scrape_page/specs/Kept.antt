-- What a page keeps, whenever nobody is at work in it.
use Rattle.std.specs.Prelude.{◌≡◌, ◌≢◌, ℕ, ◌<◌, ◌≤◌, List, length, map, slice_get, IsSomeAnd, All, AllPairs, Contains}
use Rattle.std.specs.List.Sorted.{IsPermutation}
use Rattle.metric_desc.specs.Desc.{Clash}
use Rattle.registry_state.specs.Replay.{Family}
use Rattle.registry_state.specs.Held.{IsOrder}
use Rattle.registry_state.specs.Kept.{RegistryView}
use Rattle.scrape_page.specs.declared.family.Part.{Part}
use Rattle.scrape_page.specs.Families.{PageFamily, PageView, descs_of, as_family}
use Rattle.scrape_page.specs.Places.{values_of, places_of}

module _ {S : Type 0} where
  -- What holds of a family over all boards: its parts are the places of the families of its name, each once, and the first is on
  -- its group's board; no two of its children have the same values, whichever board they are on; they are as many as it says, and
  -- at most 256; and its group's board is there.
  pub record IsSpread (boards : List (RegistryView S)) (family : PageFamily) : Type 0 where
    pub parts : IsPermutation (places_of family.desc.name boards) family.parts
    pub first : IsSomeAnd (slice_get family.parts 0) (λ (part : Part). part.board ≡ family.home)
    pub distinct : AllPairs (λ a b. a ≢ b) (values_of family.desc.name boards)
    pub count : length (values_of family.desc.name boards) ≡ family.children
    pub limit : family.children ≤ 256
    pub home : family.home < length boards

  -- One to 96 boards, no two of one id. At most 128 families, no two of which clash; each family of each board is one of them,
  -- word for word, so that over all boards a name belongs to one descriptor, and no two of one board have the same name. The
  -- families of a group begin on one board.
  pub record IsPage (page : PageView S) : Type 0 where
    pub some : 0 < length page.boards
    pub most : length page.boards ≤ 96
    pub ids : AllPairs (λ (a b : RegistryView S). a.id ≢ b.id) page.boards
    pub few : length page.families ≤ 128
    pub apart : AllPairs (λ (a b : PageFamily). ¬ (Clash a.desc b.desc)) page.families
    pub known : All (λ (board : RegistryView S). All (λ (family : Family). Contains (descs_of page.families) family.desc)
        board.state.families) page.boards
    pub once : All (λ (board : RegistryView S). AllPairs (λ (a b : Family). a.desc.name ≢ b.desc.name) board.state.families)
        page.boards
    pub spread : All (IsSpread page.boards) page.families
    pub groups : AllPairs (λ (a b : PageFamily). a.group ≡ b.group → a.home ≡ b.home) page.families

  -- what every `Page` keeps: what `IsPage` says, which is public; and this is the order of its families by their names
  pub record IsHeldPage (page : PageView S) (order : List ℕ) : Type 0 where
    pub page_is : IsPage page
    pub ordered : IsOrder (map as_family page.families) order
