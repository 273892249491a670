-- What contracts see of a page.
use Rattle.std.specs.Prelude.{ℕ, List, [], map}
use Rattle.metric_desc.specs.Desc.{Descriptor}
use Rattle.registry_state.specs.Replay.{Family}
use Rattle.registry_state.specs.Kept.{RegistryView}
use Rattle.scrape_page.specs.declared.family.Part.{Part}

-- a family of a page: what it is; its group, and the board that the group is on; where its children are: its parts, each a family
-- of a board; and how many children there are on all boards
pub record PageFamily : Type 0 where
  pub desc : Descriptor
  pub group : ℕ
  pub home : ℕ
  pub parts : List Part
  pub children : ℕ

-- the boards, in the order in which they came, and the families, in the order of their registration
pub record PageView (S : Type 0) : Type 0 where
  pub boards : List (RegistryView S)
  pub families : List PageFamily

-- what the families are
abbrev pub descs_of : List PageFamily → List Descriptor
descs_of families = map (λ (family : PageFamily). family.desc) families

-- a family of a page as one of a registry, by which the order of names is said
abbrev pub as_family : PageFamily → Family
as_family family = record { desc = family.desc; children = [] }
