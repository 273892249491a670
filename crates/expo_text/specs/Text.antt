-- The text of a scrape: the Prometheus text exposition format 0.0.4
-- (Prometheus documentation, "Exposition formats", "Text format details").
use Rattle.std.specs.Prelude.{ℕ, List, [], ◌∷◌, ◌++◌, flat_map, codes}
use Rattle.std.specs.Fmt.{signed_decimal}
use Rattle.std.specs.List.{join_by}
use Rattle.metric_names.specs.Escapes.{help_byte, label_byte}
use Rattle.metric_desc.specs.Desc.{Descriptor}
use Rattle.metric_desc.specs.declared.kind.Kind.{Kind}
use Rattle.metric_desc.specs.declared.kind.Kind.TheVariants.{Counter, Histogram, Gauge}
use Rattle.expo_text.specs.Scraped.{Child, Family, Scraped}
use Rattle.expo_text.specs.Samples.{Sample, samples_of_family}

-- a label: its name, and its value in quotes, escaped
abbrev pub label_text : List ℕ × List ℕ → List ℕ
label_text label = label.0 ++ codes "=\"" ++ flat_map label_byte label.1 ++ codes "\""

-- the labels of a sample in braces, parted by commas; without labels nothing at all
abbrev pub labels_text : List (List ℕ × List ℕ) → List ℕ
labels_text [] = []
labels_text (label ∷ labels) = codes "{" ++ join_by label_text (codes ",") (label ∷ labels) ++ codes "}"

-- the line of a sample: its name, its labels, a blank, its value in decimal digits
abbrev pub sample_line : Sample → List ℕ
sample_line sample = sample.name ++ labels_text sample.labels ++ codes " " ++ signed_decimal sample.value ++ codes "\n"

-- the line that gives a family's help, escaped; where the help is empty, none
abbrev pub help_line : (name help : List ℕ) → List ℕ
help_line name [] = []
help_line name (byte ∷ bytes) = codes "# HELP " ++ name ++ codes " " ++ flat_map help_byte (byte ∷ bytes) ++ codes "\n"

-- the word for a kind
abbrev pub kind_text : Kind → List ℕ
kind_text Counter = codes "counter"
kind_text Histogram = codes "histogram"
kind_text Gauge = codes "gauge"

-- the line that gives a family's type
abbrev pub type_line : Descriptor → List ℕ
type_line desc = codes "# TYPE " ++ desc.name ++ codes " " ++ kind_text desc.kind ++ codes "\n"

-- the lines of a group: the help, the type, then these samples; without children nothing at all
abbrev pub group_of : Descriptor → List Child → List Sample → List ℕ
group_of desc [] lines = []
group_of desc (_ ∷ _) lines = help_line desc.name desc.help ++ type_line desc ++ flat_map sample_line lines

-- the lines of a family's group
abbrev pub group_text : Family → List ℕ
group_text family = group_of family.desc family.children (samples_of_family family)

-- the groups of the families, one after another
abbrev pub text : Scraped → List ℕ
text scrape = flat_map group_text scrape.families
