-- Several scrapes as one.
use Rattle.std.specs.Prelude.{◌≡◌, ◌≢◌, ℕ, ◌≤◌, true, false, List, [], ◌∷◌, length, map, flat_map, All, AllPairs, Contains}
use Rattle.std.specs.Prelude.{if◌then◌else◌}
use Rattle.std.specs.List.Sorted.{IsPermutation}
use Rattle.std.specs.Str.{bytes_eq}
use Rattle.metric_desc.specs.Desc.{Descriptor, Clash}
use Rattle.expo_text.specs.Scraped.{Child, Family, Scraped}
use Rattle.expo_text.specs.Order.{IsBefore}
use Rattle.scrape_merge.specs.Frames.{Frame, FramesView, descs_of}

-- the families of all scrapes, those of one behind those of the one before it
abbrev pub families_of : List Scraped → List Family
families_of parts = flat_map (λ (part : Scraped). part.families) parts

-- what the families of this name come to, one behind the other
abbrev pub of_name : {Y : Type 0} → (Family → List Y) → List ℕ → List Family → List Y
of_name each name families = flat_map (λ (family : Family). if bytes_eq family.desc.name name then each family else []) families

-- the children of the families of this name
abbrev pub children_of : List ℕ → List Family → List Child
children_of name families = of_name (λ (family : Family). family.children) name families

-- the descriptors of the families of this name
abbrev pub named : List ℕ → List Family → List Descriptor
named name families = of_name (λ (family : Family). family.desc ∷ []) name families

-- there is room for the children of these families that have the frame's name: it takes one family at most, or it has room for
-- the children of all
abbrev pub HasRoom : List Family → Frame → Type 0
HasRoom families (frame) = (frame.single ≡ true → length (named frame.desc.name families) ≤ 1)
    × (frame.single ≡ false → length (children_of frame.desc.name families) ≤ frame.room)

-- These scrapes can be merged into these families, and no memory is needed for it: the families are those of a scrape; each
-- family of each scrape is one of them, word for word; no two children of a name have the same values, and there are at most 256
-- of them.
pub record IsMergeable (frames : FramesView) (parts : List Scraped) : Type 0 where
  pub few : length frames.families ≤ 128
  pub ordered : AllPairs (λ (a b : Frame). IsBefore a.desc.name b.desc.name) frames.families
  pub apart : AllPairs (λ (a b : Frame). ¬ (Clash a.desc b.desc)) frames.families
  pub known : All (λ (family : Family). Contains (descs_of frames.families) family.desc) (families_of parts)
  pub distinct : All (λ (frame : Frame). AllPairs (λ (a b : Child). a.values ≢ b.values)
      (children_of frame.desc.name (families_of parts))) frames.families
  pub limit : All (λ (frame : Frame). length (children_of frame.desc.name (families_of parts)) ≤ 256) frames.families
  pub room : All (HasRoom (families_of parts)) frames.families
  pub numbers : length (flat_map (λ (part : Scraped). part.vector) parts) ≤ frames.numbers

-- One scrape of what several show: all vectors in a row; these families; and the children of each are those of all families of
-- its name, each once, with its values and its number. A scrape's children stand in strict order of their values: so this says
-- where each of them stands.
pub record IsMerged (descs : List Descriptor) (parts : List Scraped) (whole : Scraped) : Type 0 where
  pub vector : whole.vector ≡ flat_map (λ (part : Scraped). part.vector) parts
  pub families : map (λ (family : Family). family.desc) whole.families ≡ descs
  pub children : All (λ (family : Family). IsPermutation (children_of family.desc.name (families_of parts)) family.children)
      whole.families
