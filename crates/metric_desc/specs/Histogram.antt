-- Labels and bounds of a histogram, and why there is no descriptor of one.
use Rattle.std.specs.Prelude.{ℕ, List, codes, Contains}
use Rattle.bucket_math.specs.Bounds.{AreBounds, FirstBadBound}
use Rattle.metric_desc.specs.Labels as of_labels
use Rattle.metric_desc.specs.Labels.{AreLabels, IsLabelsFault}
use Rattle.metric_desc.specs.declared.histogram_fault.HistogramFault.{HistogramFault}
use Rattle.metric_desc.specs.declared.histogram_fault.HistogramFault.TheVariants.{Labels, LeOnHistogram, Bounds}

-- the label that the samples of a histogram's buckets have beside the family's own
abbrev pub le : List ℕ
le = codes "le"

-- the labels are no family's; or they are and one of them is `le`; or they are good and the bounds are not
abbrev pub IsHistogramFault : (labels : List (List ℕ)) → (bounds : List ℕ) → HistogramFault → Type 0
IsHistogramFault labels bounds (Labels fault) = IsLabelsFault labels fault
IsHistogramFault labels bounds LeOnHistogram = AreLabels labels × Contains labels le
IsHistogramFault labels bounds (Bounds fault) = AreLabels labels × (¬ (Contains labels le)) × FirstBadBound bounds fault.at

-- the number of each fault
abbrev pub number_of : HistogramFault → ℕ
number_of (Labels fault) = of_labels.number_of fault
number_of LeOnHistogram = 8
number_of (Bounds _) = 10

-- labels and bounds that a histogram may have
pub record IsHistogram (labels : List (List ℕ)) (bounds : List ℕ) : Type 0 where
  pub labels_ok : AreLabels labels
  pub no_le : Contains labels le → ⊥
  pub bounds_ok : AreBounds bounds
