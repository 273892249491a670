-- The groups that a scrape prints.
use Rattle.std.specs.Prelude.{ℕ, List, [], ◌∷◌, flat_map}
use Rattle.metric_desc.specs.Desc.{Descriptor}
use Rattle.metric_desc.specs.declared.kind.Kind.{Kind}
use Rattle.expo_text.specs.Scraped.{Child, Family, Scraped}
use Rattle.expo_text.specs.Samples.{Sample, samples_of_family}

-- a group: the name of its family, its help, which may be empty, its kind, and its samples
pub record Group : Type 0 where
  pub name : List ℕ
  pub help : List ℕ
  pub kind : Kind
  pub samples : List Sample

-- the group of these children, with these samples; where there are no children, none
abbrev pub group_of_children : Descriptor → List Child → List Sample → List Group
group_of_children desc [] all = []
group_of_children desc (_ ∷ _) all = record { name = desc.name; help = desc.help; kind = desc.kind; samples = all } ∷ []

-- the group of a family with all its samples; a family without children has none
abbrev pub group_of_family : Family → List Group
group_of_family family = group_of_children family.desc family.children (samples_of_family family)

-- the groups of the families of a scrape, in their order
abbrev pub groups_of : Scraped → List Group
groups_of scrape = flat_map group_of_family scrape.families
