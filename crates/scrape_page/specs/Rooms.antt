-- Which board has room.
use Rattle.std.specs.Prelude.{◌≡◌, ◌≢◌, ℕ, ◌<◌, ◌≤◌, ◌⊎◌, List, Some, length, take, slice_get, IsSomeAnd, All}
use Rattle.std.specs.List.{Any}
use Rattle.metric_desc.specs.declared.kind.Kind.{Kind}
use Rattle.registry_state.specs.Faults.{AreFree, HasSlot}
use Rattle.registry_state.specs.Kept.{RegistryView}
use Rattle.scrape_page.specs.declared.family.Part.{Part}
use Rattle.scrape_page.specs.Families.{PageFamily, PageView}

-- rows of c counters, h histograms and g gauges
module _ {S : Type 0} (c h g : ℕ) (kind : Kind) where
  -- so many slots of the kind are free on the board
  abbrev pub HasFree : RegistryView S → ℕ → Type 0
  HasFree board count = AreFree c h g board.state.families kind count

  -- the board of this number has so many free slots of the kind, and none has more; of those that have as many it has fewest
  -- families, and of several such it is the first
  pub record IsRoomiest (boards : List (RegistryView S)) (at room : ℕ) : Type 0 where
    pub board : RegistryView S
    pub there : slice_get boards at ≡ Some board
    pub free : HasFree board room
    pub most : All (λ (other : RegistryView S). (count : ℕ) → HasFree other count → count ≤ room) boards
    pub fewest : All (λ (other : RegistryView S). HasFree other room
        → length board.state.families ≤ length other.state.families) boards
    pub first : All (λ (other : RegistryView S). HasFree other room
        → length board.state.families < length other.state.families) (take at boards)

  -- the board has a free slot of the kind
  abbrev pub HasRoom : RegistryView S → Type 0
  HasRoom board = HasSlot c h g board.state.families kind

  -- no board has a free slot of the kind
  abbrev pub AreFull : List (RegistryView S) → Type 0
  AreFull boards = All (λ (board : RegistryView S). ¬ (HasRoom board)) boards

  -- the part is on a board without a free slot of the kind
  abbrev pub IsFullPart : List (RegistryView S) → Part → Type 0
  IsFullPart boards part = IsSomeAnd (slice_get boards part.board) (λ (board : RegistryView S). ¬ (HasRoom board))

  -- the first of the parts whose board has a free slot of the kind is the one at this place
  pub record IsFirstWithRoom (boards : List (RegistryView S)) (parts : List Part) (place : ℕ) (part : Part) : Type 0 where
    pub at : slice_get parts place ≡ Some part
    pub room : IsSomeAnd (slice_get boards part.board) HasRoom
    pub full : All (IsFullPart boards) (take place parts)

-- The board of a new family of this kind in this group: that of the group's families; or, where the group is new, the one with
-- most free slots of the kind, by `IsRoomiest`.
abbrev pub IsHome : {S : Type 0} (c h g : ℕ) → PageView S → Kind → (group home : ℕ) → Type 0
IsHome c h g page kind group home =
    Any (λ (family : PageFamily). (family.group ≡ group) × (family.home ≡ home)) page.families
    ⊎ (All (λ (family : PageFamily). family.group ≢ group) page.families × (room : ℕ) × IsRoomiest c h g kind page.boards home
    room)
