-- What a scraper finds in the lines of printed groups, and what those groups keep.
use Rattle.std.proofs.Common.{◌≡◌, ℕ, ◌<◌, ◌^◌, List, [], ◌∷◌, ◌++◌, map, length, true}
use Rattle.std.specs.Prelude.{pos, nat_abs, All, IsTrue, flat_map, ◌⊎◌}
use Rattle.expo_text.specs.Shifted.{signed_shifted}
use Rattle.metric_names.specs.Spelling.{name_takes}
use Rattle.metric_names.specs.MetricName.{IsMetricName}
use Rattle.metric_names.specs.LabelName.{IsLabelName}
use Rattle.metric_names.specs.HelpText.{IsHelpText}
use Rattle.metric_names.specs.Escapes.{help_byte, label_byte}
use Rattle.metric_desc.specs.declared.kind.Kind.TheVariants.{Gauge}
use Rattle.expo_text.specs.Shown.{Shown}
use Rattle.expo_text.proofs.ShownGroups.{ShownGroup}
use Rattle.expo_text.specs.Lines.{Written, LineEntry, Help, Typed, Sampled}
use Rattle.expo_text.specs.Parts.{Part}
use Rattle.expo_text.specs.Reads.{word_of}

-- a sample as it is written
abbrev pub written_label : List ℕ × List ℕ → List ℕ × List ℕ
written_label label = (label.0, flat_map label_byte label.1)

abbrev pub written_of : Shown → Written
written_of sample = record {
  name = sample.name;
  labels = map written_label sample.labels;
  value = signed_shifted sample.digits
      sample.value;
}

-- the entries of a group's lines
abbrev pub help_entries : (name help : List ℕ) → List LineEntry
help_entries name [] = []
help_entries name (byte ∷ bytes) = Help name (flat_map help_byte (byte ∷ bytes)) ∷ []

abbrev pub sampled : Shown → LineEntry
sampled sample = Sampled (written_of sample)

abbrev pub group_entries : ShownGroup → List LineEntry
group_entries group =
    help_entries group.name group.help ++ (Typed group.name (word_of group.kind) ∷ map sampled group.samples)

abbrev pub entries_of : List ShownGroup → List LineEntry
entries_of groups = flat_map group_entries groups

-- the part that these entries make
abbrev pub helps_of : (help : List ℕ) → List (List ℕ)
helps_of [] = []
helps_of (byte ∷ bytes) = flat_map help_byte (byte ∷ bytes) ∷ []

abbrev pub part_of : ShownGroup → Part
part_of group =
    record {
      name = group.name;
      helps = helps_of group.help;
      types = word_of group.kind ∷ [];
      samples = map written_of group.samples;
    }

-- a sample that a scrape prints: its name has a byte or more, each a letter, a digit, `_` or `:`
pub record IsPrintedSample (sample : Shown) : Type 0 where
  pub nonempty : 0 < length sample.name
  pub spelled : All (λ byte. IsTrue (name_takes true 1 byte)) sample.name
  pub labels : All (λ (label : List ℕ × List ℕ). IsLabelName label.0) sample.labels
  pub value : nat_abs sample.value < 2 ^ 64

-- a group that a scrape prints: only a gauge's values may be below zero
pub record IsPrintedGroup (group : ShownGroup) : Type 0 where
  pub name : IsMetricName group.name
  pub help : IsHelpText group.help
  pub samples : All IsPrintedSample group.samples
  pub signs : (group.kind ≡ Gauge) ⊎ All (λ (sample : Shown). (n : ℕ) × (sample.value ≡ pos n)) group.samples
