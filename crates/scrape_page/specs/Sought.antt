-- What there is of a child that a family is asked for, before anything is made.
use Rattle.std.specs.Prelude.{◌≡◌, ◌≢◌, ⊤, ℕ, ◌<◌, ◌≤◌, List, length, All}
use Rattle.std.specs.List.{Any}
use Rattle.registry_state.specs.Calls.{IsInside}
use Rattle.registry_state.specs.Replay.{Family, IsNew}
use Rattle.registry_state.specs.Kept.{RegistryView}
use Rattle.scrape_page.specs.declared.seeking.Sought.{Sought}
use Rattle.scrape_page.specs.declared.seeking.Sought.TheVariants.{There, Room, Full}
use Rattle.scrape_page.specs.declared.fault.PageChildFault.{PageChildFault}
use Rattle.scrape_page.specs.declared.fault.PageChildFault.TheVariants.{LabelCount, TooManyChildren}
use Rattle.scrape_page.specs.Families.{PageFamily}
use Rattle.scrape_page.specs.Places.{HasPart}
use Rattle.scrape_page.specs.Rooms.{IsFirstWithRoom, IsFullPart}
use Rattle.scrape_page.specs.Faults.{IsMissing}
use Rattle.scrape_page.specs.Calls.{IsFoundAt}

module _ {S : Type 0} where
  -- a family's parts are there, and values that none of them has are missing; there is a board
  pub record IsWhole (boards : List (RegistryView S)) (family : PageFamily) : Type 0 where
    pub some : 0 < length boards
    pub parts : All (λ part. HasPart boards part (λ _ _. ⊤)) family.parts
    pub missing : (values : List (List ℕ)) → length values ≡ length family.desc.labels
        → All (λ part. HasPart boards part (λ _ (of_board : Family). IsNew of_board values)) family.parts
        → IsMissing boards family values

  -- what there is of the child of these values of a family, which may have one more where there is none
  abbrev pub IsSought : (c h g : ℕ) → List (RegistryView S) → (values : List (List ℕ)) → Sought → PageFamily → Type 0
  IsSought c h g boards values (There handle) it = Any (IsFoundAt boards values handle) it.parts × IsInside c h g handle
  IsSought c h g boards values (Room part) it = IsMissing boards it values × (it.children < 256)
      × (place : ℕ) × IsFirstWithRoom c h g it.desc.kind boards it.parts place part
  IsSought c h g boards values (Full kind) it = IsMissing boards it values × (it.children < 256) × (kind ≡ it.desc.kind)
      × All (IsFullPart c h g it.desc.kind boards) it.parts

  -- why it is not sought, or may not be made
  abbrev pub IsRefused : List (RegistryView S) → (values : List (List ℕ)) → PageChildFault → PageFamily → Type 0
  IsRefused boards values (LabelCount want got) it = (want ≡ length it.desc.labels) × (got ≡ length values) × (want ≢ got)
  IsRefused boards values TooManyChildren it = IsMissing boards it values × (256 ≤ it.children)
  IsRefused boards values _ it = ⊥
