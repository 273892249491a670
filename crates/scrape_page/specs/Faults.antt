-- Why a page refuses, and the numbers of its refusals.
use Rattle.std.specs.Prelude.{◌≡◌, ◌≢◌, ℕ, ◌<◌, ◌≤◌, List, length, take, slice_get, IsSomeAnd, All}
use Rattle.std.specs.List.{Any}
use Rattle.metric_desc.specs.Desc.{Descriptor, Clash}
use Rattle.registry_state.specs.Kept.{RegistryView}
use Rattle.registry_state.specs.Replay.{slots}
use Rattle.scrape_page.specs.Families.{PageFamily, PageView}
use Rattle.scrape_page.specs.Places.{values_of}
use Rattle.scrape_page.specs.Rooms.{HasRoom, AreFull}
use Rattle.scrape_page.specs.declared.fault.BoardFault.{BoardFault}
use Rattle.scrape_page.specs.declared.fault.BoardFault.TheVariants as OfBoard
use Rattle.scrape_page.specs.declared.fault.PageFamilyFault.{PageFamilyFault}
use Rattle.scrape_page.specs.declared.fault.PageFamilyFault.TheVariants as OfFamily
use Rattle.scrape_page.specs.declared.fault.PageChildFault.{PageChildFault}
use Rattle.scrape_page.specs.declared.fault.PageChildFault.TheVariants as OfChild

-- no family clashes with the descriptor
abbrev pub AreApart : List PageFamily → Descriptor → Type 0
AreApart families desc = All (λ (family : PageFamily). ¬ (Clash family.desc desc)) families

-- the family of this number is the first that clashes with the descriptor
pub record IsFirstClash (families : List PageFamily) (desc : Descriptor) (with : ℕ) : Type 0 where
  pub clash : IsSomeAnd (slice_get families with) (λ (family : PageFamily). Clash family.desc desc)
  pub first : AreApart (take with families) desc

-- why a family is not registered
abbrev pub IsPageFamilyFault : List PageFamily → Descriptor → PageFamilyFault → Type 0
IsPageFamilyFault families desc (OfFamily.Clash with) = IsFirstClash families desc with
IsPageFamilyFault families desc OfFamily.TooManyFamilies = AreApart families desc × (128 ≤ length families)
IsPageFamilyFault families desc OfFamily.NoMemory = AreApart families desc × (length families < 128)

module _ {S : Type 0} where
  -- a board is taken by a page with these: it has no family, and its id is none of theirs
  pub record IsFresh (boards : List (RegistryView S)) (board : RegistryView S) : Type 0 where
    pub empty : length board.state.families ≡ 0
    pub new : All (λ (other : RegistryView S). other.id ≢ board.id) boards

  -- why a board is not taken
  abbrev pub IsBoardFault : List (RegistryView S) → RegistryView S → BoardFault → Type 0
  IsBoardFault boards board OfBoard.TooManyBoards = 96 ≤ length boards
  IsBoardFault boards board OfBoard.NotFresh = (length boards < 96) × (¬ (IsFresh boards board))
  IsBoardFault boards board OfBoard.NoMemory = (length boards < 96) × IsFresh boards board

  -- the values are as many as the family's labels, and no child of it has them, on any board
  abbrev pub IsMissing : List (RegistryView S) → PageFamily → List (List ℕ) → Type 0
  IsMissing boards family values = (length values ≡ length family.desc.labels)
      × All (λ other. other ≢ values) (values_of family.desc.name boards)

  -- why there is no child of these values of the family of this number
  abbrev pub IsPageChildFault : (c h g : ℕ) → PageView S → (number : ℕ) → (values : List (List ℕ)) → PageChildFault → Type 0
  IsPageChildFault c h g page number values OfChild.NoSuchFamily = length page.families ≤ number
  IsPageChildFault c h g page number values (OfChild.LabelCount want got) =
      IsSomeAnd (slice_get page.families number) (λ (it : PageFamily).
      (want ≡ length it.desc.labels) × (got ≡ length values) × (want ≢ got))
  IsPageChildFault c h g page number values OfChild.TooManyChildren =
      IsSomeAnd (slice_get page.families number) (λ (it : PageFamily). IsMissing page.boards it values × (256 ≤ it.children))
  IsPageChildFault c h g page number values (OfChild.Full kind many) = (many ≡ slots c h g kind)
      × IsSomeAnd (slice_get page.families number) (λ (it : PageFamily). IsMissing page.boards it values × (it.children < 256)
      × (kind ≡ it.desc.kind) × AreFull c h g it.desc.kind page.boards)
  IsPageChildFault c h g page number values OfChild.NoMemory =
      IsSomeAnd (slice_get page.families number) (λ (it : PageFamily). IsMissing page.boards it values × (it.children < 256)
      × Any (HasRoom c h g it.desc.kind) page.boards)

-- the number of each reason why a board is not taken
abbrev pub board_fault_number : BoardFault → ℕ
board_fault_number OfBoard.TooManyBoards = 44
board_fault_number OfBoard.NotFresh = 45
board_fault_number OfBoard.NoMemory = 6

-- the number of each refusal of a family
abbrev pub family_fault_number : PageFamilyFault → ℕ
family_fault_number (OfFamily.Clash with) = 19
family_fault_number OfFamily.TooManyFamilies = 23
family_fault_number OfFamily.NoMemory = 6

-- the number of each refusal of a child
abbrev pub child_fault_number : PageChildFault → ℕ
child_fault_number OfChild.NoSuchFamily = 20
child_fault_number (OfChild.LabelCount want got) = 21
child_fault_number OfChild.TooManyChildren = 46
child_fault_number (OfChild.Full kind many) = 22
child_fault_number OfChild.NoMemory = 6
