-- A child that a family is asked for.
use Rattle.std.proofs.Common.{◌≡◌, ℕ, ◌<◌, List, Some, length, subst, All}
use Rattle.std.specs.Prelude.{slice_get, IsSomeAnd}
use Rattle.std.specs.List.{Any}
use Rattle.registry_state.specs.Replay.{Family, IsNew}
use Rattle.registry_state.specs.Kept.{RegistryView}
use Rattle.registry_state.proofs.Making.{some_at}
use Rattle.scrape_page.specs.declared.family.Part.{Part}
use Rattle.scrape_page.specs.declared.seeking.Sought.{Sought}
use Rattle.scrape_page.specs.declared.seeking.Sought.TheVariants.{Room}
use Rattle.scrape_page.specs.declared.fault.PageChildFault.{PageChildFault}
use Rattle.scrape_page.specs.declared.fault.PageChildFault.TheVariants.{NoSuchFamily, LabelCount, TooManyChildren, Full, NoMemory}
use Rattle.scrape_page.specs.Families.{PageFamily, PageView}
use Rattle.scrape_page.specs.Places.{HasPart}
use Rattle.scrape_page.specs.Rooms.{HasRoom}
use Rattle.scrape_page.specs.Faults.{IsMissing, IsPageChildFault}
use Rattle.scrape_page.specs.Kept.{IsHeldPage}
use Rattle.scrape_page.specs.Sought.{IsWhole, IsSought, IsRefused}
use Rattle.scrape_page.proofs.Asked.{parts_hold, is_missing, any_at}
use Rattle.scrape_page.proofs.Born.{some_there}

module _ {S : Type 0} where
  -- a family of a page is whole
  pub whole : (page : PageView S) (order : List ℕ) → IsHeldPage page order → (number : ℕ) (it : PageFamily)
      → slice_get page.families number ≡ Some it → IsWhole page.boards it
  whole page order held number it there = record {
    some = held.page_is.some;
    parts = parts_hold page order held number it there;
    missing = is_missing page order held number it there;
  }

  -- values that none of these parts of a family has, which are all of them, are missing
  pub unfound : (boards : List (RegistryView S)) (it : PageFamily) (values : List (List ℕ)) (parts : List Part)
      → IsWhole boards it → parts ≡ it.parts → length values ≡ length it.desc.labels
      → All (λ part. HasPart boards part (λ _ (family : Family). IsNew family values)) parts → IsMissing boards it values
  unfound boards it values parts whole is fit new =
      whole.missing values fit (subst (All (λ part. HasPart boards part (λ _ (family : Family). IsNew family values))) is new)

  -- a family of this number is refused as it is by itself
  pub refused : (c h g : ℕ) (page : PageView S) (number : ℕ) (it : PageFamily) → slice_get page.families number ≡ Some it
      → (values : List (List ℕ)) (fault : PageChildFault) → IsRefused page.boards values fault it
      → IsPageChildFault c h g page number values fault
  refused c h g page number it there values NoSuchFamily none = absurd none
  refused c h g page number it there values (LabelCount want got) is =
      some_at (IsRefused page.boards values (LabelCount want got)) page.families number it there is
  refused c h g page number it there values TooManyChildren is =
      some_at (IsRefused page.boards values TooManyChildren) page.families number it there is
  refused c h g page number it there values (Full _ _) none = absurd none
  refused c h g page number it there values NoMemory none = absurd none

  -- what there is of a child of these values of the family of this number
  abbrev pub IsSoughtOnPage : (c h g : ℕ) → PageView S → (number : ℕ) → (values : List (List ℕ)) → Sought → Type 0
  IsSoughtOnPage c h g page number values sought =
      IsSomeAnd (slice_get page.families number) (IsSought c h g page.boards values sought)

  module _ (c h g : ℕ) (page : PageView S) (number : ℕ) (values : List (List ℕ)) where
    module _ (part : Part) (sought : IsSoughtOnPage c h g page number values (Room part)) where
      abbrev the : (it : PageFamily) × (slice_get page.families number ≡ Some it)
          × IsSought c h g page.boards values (Room part) it
      the = some_there (IsSought c h g page.boards values (Room part)) (slice_get page.families number) sought

      -- there is room, and no memory
      pub no_memory_there : IsPageChildFault c h g page number values NoMemory
      no_memory_there = some_at (λ (it : PageFamily). IsMissing page.boards it values × (it.children < 256)
          × Any (HasRoom c h g it.desc.kind) page.boards) page.families number the.0 the.1
          (the.2.0, the.2.1, any_at (HasRoom c h g (the.0).desc.kind) page.boards part.board the.2.3.room)
