-- What a descriptor says of a family.
use Rattle.std.specs.Prelude.{◌≡◌, ◌≢◌, ℕ, List, [], ◌∷◌, ◌++◌, codes, map, Contains}
use Rattle.metric_desc.specs.Labels.{AreLabels}
use Rattle.metric_desc.specs.Histogram.{IsHistogram}
use Rattle.metric_desc.specs.declared.kind.Kind.{Kind}
use Rattle.metric_desc.specs.declared.kind.Kind.TheVariants.{Counter, Histogram, Gauge, Counter as CounterKind}
use Rattle.metric_desc.specs.declared.kind.Kind.TheVariants.{Histogram as HistogramKind, Gauge as GaugeKind}
use Rattle.metric_desc.specs.declared.kind.Shape.{Shape}
use Rattle.metric_desc.specs.declared.kind.Shape.TheVariants.{Counter, Histogram, Gauge}

-- the name, the help and the names of the labels, as bytes; the kind; the bounds, which only a histogram has; and by how many
-- decimal digits a text shifts the numbers
pub record Descriptor : Type 0 where
  pub name : List ℕ
  pub help : List ℕ
  pub labels : List (List ℕ)
  pub kind : Kind
  pub bounds : List ℕ
  pub digits : ℕ

-- labels and bounds that a family of this kind may have; only a histogram has bounds
pub record IsDescOf (kind : Kind) (labels : List (List ℕ)) (bounds : List ℕ) : Type 0 where
  pub labels_ok : AreLabels labels
  pub histogram : kind ≡ HistogramKind → IsHistogram labels bounds
  pub others : kind ≢ HistogramKind → bounds ≡ []

-- what the names of a family's lines have after the family's name
abbrev pub suffixes_of : Kind → List (List ℕ)
suffixes_of Counter = [] ∷ []
suffixes_of Histogram = [] ∷ codes "_bucket" ∷ codes "_sum" ∷ codes "_count" ∷ []
suffixes_of Gauge = [] ∷ []

-- the names that a family's lines take, the family's own first: of a histogram that is the name of its HELP and TYPE lines alone
abbrev pub names_of : Descriptor → List (List ℕ)
names_of desc = map (λ suffix. desc.name ++ suffix) (suffixes_of desc.kind)

-- some name stands in both lists
abbrev pub Clash : Descriptor → Descriptor → Type 0
Clash a b = (name : List ℕ) × Contains (names_of a) name × Contains (names_of b) name

-- the kind of a family of this shape
abbrev pub kind_of : Shape → Kind
kind_of Counter = CounterKind
kind_of (Histogram bounds) = HistogramKind
kind_of Gauge = GaugeKind

-- its bounds: only a histogram has any
abbrev pub bounds_of : Shape → List ℕ
bounds_of Counter = []
bounds_of (Histogram bounds) = bounds
bounds_of Gauge = []
