-- What the parts of a line say, and why they are refused.
use Rattle.std.specs.Prelude.{◌≡◌, ⊤, ◌⊎◌, ℕ, List, [], ◌∷◌, take, slice_get, All, IsSomeAnd}
use Rattle.metric_names.specs.MetricName.{IsMetricName, IsMetricNameFault}
use Rattle.metric_names.specs.LabelName.{IsLabelName, IsLabelNameFault}
use Rattle.metric_names.specs.HelpText.{IsHelpText, IsHelpTextFault}
use Rattle.metric_names.specs.LabelValue.{IsLabelValue, IsLabelValueFault}
use Rattle.metric_names.specs.declared.metric_name.MetricNameFault.{MetricNameFault}
use Rattle.metric_names.specs.declared.label_name.LabelNameFault.{LabelNameFault}
use Rattle.metric_names.specs.declared.help_text.HelpTextFault.{HelpTextFault}
use Rattle.metric_names.specs.declared.label_value.LabelValueFault.{LabelValueFault}
use Rattle.metric_desc.specs.Desc.{Descriptor}
use Rattle.metric_desc.specs.Labels as desc
use Rattle.metric_desc.specs.Histogram as histogram
use Rattle.metric_desc.specs.declared.labels.LabelsFault.{LabelsFault}
use Rattle.metric_desc.specs.declared.histogram_fault.HistogramFault.{HistogramFault}
use Rattle.metric_desc.specs.declared.kind.Kind.{Kind}
use Rattle.script_lines.specs.Language.{AreLabels, AreBounds, AreValues, Writes}
use Rattle.metrics_program.specs.declared.line_fault.LineFault.{LineFault}
use Rattle.metrics_program.specs.declared.line_fault.LineFault.TheVariants.{Name, Label, Help, Labels, Histogram, Value, NoMemory}

-- a line's name, labels and help say this descriptor, of this kind and of such bounds
pub record IsDescribed (kind : Kind) (name labels help : List ℕ) (Bounded : List ℕ → Type 0) (desc : Descriptor) : Type 0 where
  pub name_is : desc.name ≡ name
  pub labels_are : AreLabels labels desc.labels
  pub help_is : Writes desc.help help
  pub kind_is : desc.kind ≡ kind
  pub bounds_are : Bounded desc.bounds

-- the texts are written by these words, one by one
abbrev pub AreWritten : (texts words : List (List ℕ)) → Type 0
AreWritten [] [] = ⊤
AreWritten [] (word ∷ words) = ⊥
AreWritten (text ∷ texts) [] = ⊥
AreWritten (text ∷ texts) (word ∷ words) = Writes text word × AreWritten texts words

-- the label values that a line's values say
abbrev pub AreRead : (values : List ℕ) (read : List (List ℕ)) → Type 0
AreRead values read = (words : List (List ℕ)) × AreValues values words × AreWritten read words

-- all label names of the line are good
abbrev pub AreGoodLabels : List ℕ → Type 0
AreGoodLabels labels = (names : List (List ℕ)) × AreLabels labels names × All IsLabelName names

-- the first label name of the line that is not good has this fault
abbrev pub IsFirstBadLabel : List ℕ → LabelNameFault → Type 0
IsFirstBadLabel labels wrong =
    (names : List (List ℕ)) × (place : ℕ) × AreLabels labels names × All IsLabelName (take place names)
    × IsSomeAnd (slice_get names place) (λ name. IsLabelNameFault name wrong)

-- the help is good
abbrev pub IsGoodHelp : List ℕ → Type 0
IsGoodHelp help = (text : List ℕ) × Writes text help × IsHelpText text

-- why the labels of a line are refused
abbrev pub IsLabelsRefusal : List ℕ → LineFault → Type 0
IsLabelsRefusal labels refusal =
    (refusal ≡ NoMemory) ⊎ ((wrong : LabelNameFault) × (refusal ≡ Label wrong) × IsFirstBadLabel labels wrong)

-- why the help of a line is refused
abbrev pub IsHelpRefusal : List ℕ → LineFault → Type 0
IsHelpRefusal help refusal =
    (refusal ≡ NoMemory) ⊎ ((wrong : HelpTextFault) × (text : List ℕ) × (refusal ≡ Help wrong) × Writes text help
    × IsHelpTextFault text wrong)

-- why a label value of a line is refused
abbrev pub IsValueRefusal : List ℕ → LineFault → Type 0
IsValueRefusal written refusal =
    (refusal ≡ NoMemory) ⊎ ((wrong : LabelValueFault) × (text : List ℕ) × (refusal ≡ Value wrong) × Writes text written
    × IsLabelValueFault text wrong)

-- the value is good
abbrev pub IsGoodValue : List ℕ → Type 0
IsGoodValue word = (text : List ℕ) × Writes text word × IsLabelValue text

-- why the label values of a line are refused: the first of them that is
abbrev pub AreValuesRefused : List ℕ → LineFault → Type 0
AreValuesRefused values refusal =
    (refusal ≡ NoMemory)
    ⊎ ((words : List (List ℕ)) × (place : ℕ) × AreValues values words × All IsGoodValue (take place words)
    × IsSomeAnd (slice_get words place) (λ word. IsValueRefusal word refusal))

-- why the name, the labels and the help of a line are refused, in this order
abbrev pub IsPartsRefusal : (name labels help : List ℕ) → LineFault → Type 0
IsPartsRefusal name labels help refusal =
    ((wrong : MetricNameFault) × (refusal ≡ Name wrong) × IsMetricNameFault name wrong)
    ⊎ (IsMetricName name × IsLabelsRefusal labels refusal)
    ⊎ (IsMetricName name × AreGoodLabels labels × IsHelpRefusal help refusal)

-- all three are good
pub record AreGoodParts (name labels help : List ℕ) : Type 0 where
  pub name_good : IsMetricName name
  pub labels_good : AreGoodLabels labels
  pub help_good : IsGoodHelp help

-- why a line has no descriptor of a counter or a gauge
abbrev pub IsPlainRefusal : (name labels help : List ℕ) → LineFault → Type 0
IsPlainRefusal name labels help refusal =
    IsPartsRefusal name labels help refusal
    ⊎ ((wrong : LabelsFault) × (names : List (List ℕ)) × (refusal ≡ Labels wrong) × AreGoodParts name labels help
    × AreLabels labels names
    × desc.IsLabelsFault names wrong)

-- why a line has no descriptor of a histogram
abbrev pub IsHistogramRefusal : (name labels help bounds : List ℕ) → LineFault → Type 0
IsHistogramRefusal name labels help bounds refusal =
    IsPartsRefusal name labels help refusal
    ⊎ (AreGoodParts name labels help × (refusal ≡ NoMemory))
    ⊎ ((wrong : HistogramFault) × (names : List (List ℕ)) × (numbers : List ℕ) × (refusal ≡ Histogram wrong)
    × AreGoodParts name labels help × AreLabels labels names
    × AreBounds bounds numbers × histogram.IsHistogramFault names numbers wrong)
