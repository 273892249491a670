-- A text read as an exposition (Prometheus documentation, "Exposition formats", "Text-based format").
-- That each group has a type, and that each value is a whole number, is this project's narrowing.
use Rattle.std.specs.Prelude.{◌≡◌, ◌≢◌, ℕ, ◌<◌, ℤ, pos, neg_ℤ, ◌≤ℤ◌, ⊤, not, Option, Some, None, List, [], ◌∷◌, ◌++◌, All}
use Rattle.std.specs.Prelude.{AllPairs, Contains, filter, flat_map, codes, ◌⊎◌}
use Rattle.std.specs.Str.Parse.{IsNumeral, digits_value}
use Rattle.metric_names.specs.MetricName.{IsMetricName}
use Rattle.metric_names.specs.LabelName.{IsLabelName}
use Rattle.metric_names.specs.Escapes.{EscHelp, EscLabel}
use Rattle.metric_desc.specs.declared.kind.Kind.{Kind}
use Rattle.metric_desc.specs.declared.kind.Kind.TheVariants.{Counter, Histogram, Gauge}
use Rattle.expo_text.specs.Samples.{Sample}
use Rattle.expo_text.specs.Groups.{Group}
use Rattle.expo_text.specs.Lines.{AreLines, is_same_text, Written, LineEntry, IsLine}
use Rattle.expo_text.specs.Parts.{Part, AreParts}

-- two lists are as long as each other, and the relation holds between them element by element
abbrev pub Match : {A B : Type 0} → (A → B → Type 0) → List A → List B → Type 0
Match R [] [] = ⊤
Match R [] (_ ∷ _) = ⊥
Match R (_ ∷ _) [] = ⊥
Match R (x ∷ xs) (y ∷ ys) = R x y × Match R xs ys

-- the helps of a group: at most one, and where there is none, the help is empty
abbrev pub IsHelpOf : (helps : List (List ℕ)) → (help : List ℕ) → Type 0
IsHelpOf [] help = help ≡ []
IsHelpOf (written ∷ []) help = EscHelp help written
IsHelpOf (_ ∷ _ ∷ _) help = ⊥

-- the words of the kinds
abbrev pub word_of : Kind → List ℕ
word_of Counter = codes "counter"
word_of Histogram = codes "histogram"
word_of Gauge = codes "gauge"

-- a token writes this value: decimal digits, before which a gauge's value may have a minus
abbrev pub WritesValue : Kind → List ℕ → ℤ → Type 0
WritesValue kind token value =
    (IsNumeral 10 token × (value ≡ pos (digits_value 10 token)))
    ⊎ ((digits : List ℕ) × (kind ≡ Gauge) × (token ≡ codes "-" ++ digits) × IsNumeral 10 digits
    × (value ≡ neg_ℤ (pos (digits_value 10 digits))))

-- a label as it is written: a name of the grammar, and a value that is unescaped
pub record IsLabel (written : List ℕ × List ℕ) (label : List ℕ × List ℕ) : Type 0 where
  pub name : label.0 ≡ written.0
  pub spelled : IsLabelName label.0
  pub value : EscLabel label.1 written.1

-- a sample of a group of this kind, as it is written
pub record IsSample (kind : Kind) (written : Written) (sample : Sample) : Type 0 where
  pub name : sample.name ≡ written.name
  pub labels : Match IsLabel written.labels sample.labels
  pub value : WritesValue kind written.value sample.value

-- a group, as its lines give it: one type, at most one help
pub record IsGroup (part : Part) (group : Group) : Type 0 where
  pub name : group.name ≡ part.name
  pub spelled : IsMetricName group.name
  pub help : IsHelpOf part.helps group.help
  pub kind : part.types ≡ word_of group.kind ∷ []
  pub samples : Match (IsSample group.kind) part.samples group.samples

-- the same labels, in any order
abbrev pub AreSameLabels : (a b : List (List ℕ × List ℕ)) → Type 0
AreSameLabels a b =
    ((label : List ℕ × List ℕ) → Contains a label → Contains b label)
    × ((label : List ℕ × List ℕ) → Contains b label → Contains a label)

-- two samples are of one series: they have the same name and the same labels, in any order
pub record IsSameSeries (a b : Sample) : Type 0 where
  pub name : a.name ≡ b.name
  pub labels : AreSameLabels a.labels b.labels

-- no two labels of a sample have one name
abbrev pub HasDistinctLabels : Sample → Type 0
HasDistinctLabels sample = AllPairs (λ (a b : List ℕ × List ℕ). a.0 ≢ b.0) sample.labels

-- the labels of a child: all but `le`
abbrev pub others : List (List ℕ × List ℕ) → List (List ℕ × List ℕ)
others labels = filter (λ label. not (is_same_text label.0 (codes "le"))) labels

-- two samples are of one child: but for `le` they have the same labels
abbrev pub IsOfOneChild : Sample → Sample → Type 0
IsOfOneChild a b = AreSameLabels (others a.labels) (others b.labels)

-- the value of `le` writes this bound: a number, or none
abbrev pub WritesBound : List ℕ → Option ℕ → Type 0
WritesBound token (Some n) = IsNumeral 10 token × (digits_value 10 token ≡ n)
WritesBound token None = token ≡ codes "+Inf"

-- a number is below a greater one, and below no bound at all
abbrev pub IsLower : Option ℕ → Option ℕ → Type 0
IsLower (Some x) (Some y) = x < y
IsLower (Some x) None = ⊤
IsLower None y = ⊥

-- a sample is a bucket of this family, of this bound
pub record IsBucket (name : List ℕ) (bound : Option ℕ) (sample : Sample) : Type 0 where
  pub named : sample.name ≡ name ++ codes "_bucket"
  pub token : List ℕ
  pub le : Contains sample.labels (codes "le", token)
  pub writes : WritesBound token bound

-- a sample of a histogram is a bucket of some bound, or its sum or its count, which have no `le`
abbrev pub IsOfHistogram : (name : List ℕ) → Sample → Type 0
IsOfHistogram name sample =
    ((bound : Option ℕ) × IsBucket name bound sample)
    ⊎ (((sample.name ≡ name ++ codes "_sum") ⊎ (sample.name ≡ name ++ codes "_count"))
    × ((token : List ℕ) → ¬ (Contains sample.labels (codes "le", token))))

-- where both are buckets of one child, and the first one's bound is not above the other's, its value is not higher
abbrev pub IsNoHigher : (name : List ℕ) → Sample → Sample → Type 0
IsNoHigher name a b = (x y : Option ℕ) → IsBucket name x a → IsBucket name y b → IsOfOneChild a b → ¬ (IsLower y x)
    → a.value ≤ℤ b.value

-- the child of a sample has a bucket `+Inf` and a count, and the two are equal
pub record IsWhole (group : Group) (sample : Sample) : Type 0 where
  pub all : Sample
  pub all_there : Contains group.samples all
  pub all_name : all.name ≡ group.name ++ codes "_bucket"
  pub all_bound : Contains all.labels (codes "le", codes "+Inf")
  pub all_child : IsOfOneChild all sample
  pub count : Sample
  pub count_there : Contains group.samples count
  pub count_name : count.name ≡ group.name ++ codes "_count"
  pub count_child : IsOfOneChild count sample
  pub equal : all.value ≡ count.value

-- what a group of a histogram keeps
pub record IsHistogramGroup (group : Group) : Type 0 where
  pub formed : All (IsOfHistogram group.name) group.samples
  -- whatever the order of the lines
  pub rising : AllPairs (λ a b. IsNoHigher group.name a b × IsNoHigher group.name b a) group.samples
  pub whole : All (IsWhole group) group.samples

-- the bytes are an exposition of these groups: each line is one of the format, the lines of a group are unbroken, no series
-- stands twice, no sample has two labels of one name, and the buckets of histograms rise to their count
pub record Reads (bytes : List ℕ) (groups : List Group) : Type 0 where
  pub lines : List (List ℕ)
  pub cut : AreLines bytes lines
  pub entries : List LineEntry
  pub formed : Match IsLine lines entries
  pub parts : List Part
  pub blocks : AreParts entries parts
  pub matched : Match IsGroup parts groups
  pub unbroken : AllPairs (λ (a b : Group). a.name ≢ b.name) groups
  pub once : AllPairs (λ a b. ¬ (IsSameSeries a b)) (flat_map (λ (group : Group). group.samples) groups)
  pub labels : All HasDistinctLabels (flat_map (λ (group : Group). group.samples) groups)
  pub histograms : All (λ (group : Group). group.kind ≡ Histogram → IsHistogramGroup group) groups
