-- The groups of a scrape with their samples as they are shown.
use Rattle.std.proofs.Common.{◌≡◌, ℕ, List, [], ◌∷◌, ◌++◌, map, refl, ap₂, sym, ◌∙◌}
use Rattle.std.specs.Prelude.{flat_map}
use Rattle.std.proofs.lemmas.List.{map-append}
use Rattle.metric_desc.specs.Desc.{Descriptor}
use Rattle.metric_desc.specs.declared.kind.Kind.{Kind}
use Rattle.expo_text.specs.Scraped.{Child, Family, Scraped}
use Rattle.expo_text.specs.Shown.{Shown, shown_of_family}
use Rattle.expo_text.specs.Groups.{Group, group_of_children}
use Rattle.expo_text.specs.ReadsTo.{worth, group_to}

-- a group: the name of its family, its help, its kind, and its samples as they are shown
pub record ShownGroup : Type 0 where
  pub name : List ℕ
  pub help : List ℕ
  pub kind : Kind
  pub samples : List Shown

-- the group of these children, with these samples; where there are no children, none
abbrev pub shown_group_of_children : Descriptor → List Child → List Shown → List ShownGroup
shown_group_of_children desc [] all = []
shown_group_of_children desc (_ ∷ _) all = record { name = desc.name; help = desc.help; kind = desc.kind; samples = all } ∷ []

-- the group of a family with all its samples
abbrev pub shown_group : Family → List ShownGroup
shown_group family = shown_group_of_children family.desc family.children (shown_of_family family)

-- the groups of a scrape
abbrev pub shown_groups : Scraped → List ShownGroup
shown_groups scrape = flat_map shown_group scrape.families

-- the group of a family that has children
abbrev pub group_for : Family → ShownGroup
group_for family = record {
  name = family.desc.name;
  help = family.desc.help;
  kind = family.desc.kind;
  samples = shown_of_family family;
}

-- a group of an exposition
abbrev pub as_group : (places : ℕ) → ShownGroup → Group
as_group places group = record {
  name = group.name;
  help = group.help;
  kind = group.kind;
  samples = map (worth places) group.samples;
}

-- the group of a family, as one of an exposition
one_group : (places : ℕ) (desc : Descriptor) (children : List Child) (all : List Shown)
    → group_of_children desc children (map (worth places) all) ≡ map (as_group places) (shown_group_of_children desc children all)
one_group places desc [] all = refl
one_group places desc (_ ∷ _) all = refl

-- the groups of families, as those of an exposition
pub groups_are : (places : ℕ) (families : List Family)
    → flat_map (group_to places) families ≡ map (as_group places) (flat_map shown_group families)
groups_are places [] = refl
groups_are places (family ∷ families) =
    ap₂ (λ x y. x ++ y) (one_group places family.desc family.children (shown_of_family family)) (groups_are places families)
    ∙ sym (map-append (as_group places) (shown_group family) (flat_map shown_group families))
