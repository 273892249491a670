-- What the calls of a page do to it.
use Rattle.std.specs.Prelude.{◌≡◌, ℕ, ◌+◌, ◌<◌, ◌⊎◌, List, [], ◌∷◌, ◌++◌, Some, length, slice_set, slice_get, IsSomeAnd, All}
use Rattle.std.specs.List.{Any}
use Rattle.metric_desc.specs.Desc.{Descriptor}
use Rattle.registry_state.specs.Journal.{Registered}
use Rattle.registry_state.specs.Calls.{IsFound, WasMade, changed}
use Rattle.registry_state.specs.Kept.{RegistryView}
use Rattle.registry_state.specs.declared.handle.Handle.{Handle}
use Rattle.scrape_page.specs.declared.family.Part.{Part}
use Rattle.scrape_page.specs.declared.fault.PageChildFault.{PageChildFault}
use Rattle.scrape_page.specs.declared.fault.PageChildFault.TheVariants.{NoMemory}
use Rattle.scrape_page.specs.Families.{PageFamily, PageView}
use Rattle.scrape_page.specs.Places.{part_at}
use Rattle.scrape_page.specs.Faults.{IsMissing}
use Rattle.scrape_page.specs.Rooms.{IsRoomiest, IsFirstWithRoom, IsFullPart}

module _ {S : Type 0} where
  -- a family of this descriptor was registered on the board of this number, and got this number there
  pub record IsRegisteredOn (old new : List (RegistryView S)) (place : ℕ) (desc : Descriptor) (number : ℕ) : Type 0 where
    pub board : RegistryView S
    pub at : slice_get old place ≡ Some board
    pub number_is : number ≡ length board.state.families
    pub boards : new ≡ slice_set old place (changed (Registered desc) board)

  -- a child of these values was made on the board of this part, in the least free slot there
  pub record IsMadeOn (c h g : ℕ) (old new : List (RegistryView S)) (part : Part) (values : List (List ℕ)) (handle : Handle)
      : Type 0 where
    pub board : RegistryView S
    pub board' : RegistryView S
    pub at : slice_get old part.board ≡ Some board
    pub made : WasMade c h g board board' part.family.number values handle
    pub boards : new ≡ slice_set old part.board board'

  -- a family of this descriptor was registered on this board, behind the families that are there, and is the last family of the
  -- page
  pub record AddsFamily (old new : PageView S) (desc : Descriptor) (group home : ℕ) : Type 0 where
    pub number : ℕ
    pub registered : IsRegisteredOn old.boards new.boards home desc number
    pub families : new.families ≡ old.families ++ record {
      desc = desc;
      group = group;
      home = home;
      parts = part_at home number ∷ [];
      children = 0;
    } ∷ []

  -- the family of this number took this part, behind its others: a family of its descriptor on a board, without children
  pub record AddsPart (old new : PageView S) (number : ℕ) (part : Part) : Type 0 where
    pub family : PageFamily
    pub it : slice_get old.families number ≡ Some family
    pub registered : IsRegisteredOn old.boards new.boards part.board family.desc part.family.number
    pub families : new.families ≡ slice_set old.families number (record family { parts = family.parts ++ part ∷ [] })

  -- a child of these values was made on the board of this part, the family counts one child more, and nothing else changed
  pub record AddsChild (c h g : ℕ) (old new : PageView S) (number : ℕ) (part : Part) (values : List (List ℕ)) (handle : Handle)
      : Type 0 where
    pub family : PageFamily
    pub it : slice_get old.families number ≡ Some family
    pub made : IsMadeOn c h g old.boards new.boards part values handle
    pub families : new.families ≡ slice_set old.families number (record family { children = family.children + 1 })

  -- no part of the family had a free slot, so it took this part, on the board with most of them, of which it has some
  pub record TakesPart (c h g : ℕ) (old new : PageView S) (number : ℕ) (part : Part) : Type 0 where
    pub room : ℕ
    pub some : 0 < room
    pub full : IsSomeAnd (slice_get old.families number) (λ (it : PageFamily). All (IsFullPart c h g it.desc.kind old.boards)
        it.parts
        × IsRoomiest c h g it.desc.kind old.boards part.board room)
    pub taken : AddsPart old new number part

  -- the handle is that of the child of these values on the board of this part
  abbrev pub IsFoundAt : List (RegistryView S) → (values : List (List ℕ)) → Handle → Part → Type 0
  IsFoundAt boards values handle part = IsSomeAnd (slice_get boards part.board) (λ (board : RegistryView S).
      IsFound board.id board.state.families part.family.number values handle)

  module _ (c h g : ℕ) (old new : PageView S) (number : ℕ) (values : List (List ℕ)) (handle : Handle) where
    -- the child was there, on some board, and nothing changed
    pub record WasFound : Type 0 where
      pub found : IsSomeAnd (slice_get old.families number) (λ (it : PageFamily). Any (IsFoundAt old.boards values handle)
          it.parts)
      pub same : new ≡ old

    -- it was made, of a family that may have one more, on the board of the first part with a free slot
    pub record WasMadeThere : Type 0 where
      pub place : ℕ
      pub part : Part
      pub missing : IsSomeAnd (slice_get old.families number) (λ (it : PageFamily). IsMissing old.boards it values
          × (it.children < 256) × IsFirstWithRoom c h g it.desc.kind old.boards it.parts place part)
      pub made : AddsChild c h g old new number part values handle

    -- it was made, of a family that may have one more, on the board of the part that the family took for it
    pub record WasMadeFurther : Type 0 where
      pub part : Part
      pub mid : PageView S
      pub missing : IsSomeAnd (slice_get old.families number) (λ (it : PageFamily). IsMissing old.boards it values × (it.children
          < 256))
      pub taken : TakesPart c h g old mid number part
      pub made : AddsChild c h g mid new number part values handle

    -- the handle of the child of these values of the family of this number
    abbrev pub IsGivenOnPage : Type 0
    IsGivenOnPage = WasFound ⊎ (WasMadeThere ⊎ WasMadeFurther)

  -- What a refusal of a child leaves: everything as it was; or, where memory was refused, the part that the family took for the
  -- child, without it
  abbrev pub LeavesPage : (c h g : ℕ) → (old new : PageView S) → (number : ℕ) → PageChildFault → Type 0
  LeavesPage c h g old new number NoMemory = (new ≡ old) ⊎ ((part : Part) × TakesPart c h g old new number part)
  LeavesPage c h g old new number _ = new ≡ old
