-- What the types of a family's parts say of it, so that its text can be read back.
use Rattle.std.specs.Prelude.{◌≡◌, ℕ, ◌<◌, ◌≤◌, ◌^◌, List, length, All, IsUtf8}
use Rattle.metric_names.specs.MetricName.{IsMetricName}
use Rattle.metric_names.specs.LabelName.{IsLabelName}
use Rattle.metric_names.specs.LabelValue.{IsLabelValue}
use Rattle.metric_names.specs.HelpText.{IsHelpText}
use Rattle.metric_desc.specs.Desc.{Descriptor, IsDescOf}
use Rattle.expo_text.specs.declared.number.Number.{Number}
use Rattle.expo_text.specs.declared.number.Number.TheVariants.{Counter, Histogram, Gauge}
use Rattle.expo_text.specs.Scraped.{Child, Family}

-- a number is of words of 64 bits, and a histogram has 25 buckets
abbrev pub IsOfWords : Number → Type 0
IsOfWords (Counter total) = total < 2 ^ 64
IsOfWords (Histogram totals) = (length totals.buckets ≡ 25) × (totals.sum < 2 ^ 64) × (totals.count < 2 ^ 64)
IsOfWords (Gauge totals) = (totals.up < 2 ^ 64) × (totals.down < 2 ^ 64)

-- a label value is of its grammar, and UTF-8
pub record IsSpelledValue (value : List ℕ) : Type 0 where
  pub short : IsLabelValue value
  pub utf8 : IsUtf8 value

-- a descriptor's names and help are of their grammars, its help is UTF-8, and its digits are at most 9
pub record IsSpelledDesc (desc : Descriptor) : Type 0 where
  pub name : IsMetricName desc.name
  pub help : IsHelpText desc.help
  pub utf8 : IsUtf8 desc.help
  pub labels : All IsLabelName desc.labels
  pub kept : IsDescOf desc.kind desc.labels desc.bounds
  pub digits : desc.digits ≤ 9

-- a child's label values are so spelled, and its number is of words
pub record IsSpelledChild (child : Child) : Type 0 where
  pub values : All IsSpelledValue child.values
  pub number : IsOfWords child.number

-- a family's descriptor and its children are spelled so
pub record IsSpelled (family : Family) : Type 0 where
  pub desc : IsSpelledDesc family.desc
  pub children : All IsSpelledChild family.children

-- of a family that is printed
abbrev pub IsSpelledIfPrinted : Family → Type 0
IsSpelledIfPrinted family = 0 < length family.children → IsSpelled family
