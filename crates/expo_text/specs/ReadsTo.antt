-- A text read as an exposition, with at most so many digits after the point of each number: numbers are of parts, of which
-- 10 ^ places are one. To no place it is `Reads` (Prometheus documentation, "Exposition formats", "Text-based format").
-- That each group has a type, and that each number is written in decimal digits, is this project's narrowing.
use Rattle.std.specs.Prelude.{◌≡◌, ◌≢◌, ℕ, ◌-◌, ◌^◌, ℤ, pos, neg_ℤ, ◌*ℤ◌, ◌≤ℤ◌, Option, Some, None, List, [], ◌∷◌, ◌++◌, All}
use Rattle.std.specs.Prelude.{AllPairs, Contains, map, flat_map, codes, ◌⊎◌}
use Rattle.metric_names.specs.MetricName.{IsMetricName}
use Rattle.metric_desc.specs.declared.kind.Kind.{Kind}
use Rattle.metric_desc.specs.declared.kind.Kind.TheVariants.{Histogram, Gauge}
use Rattle.expo_text.specs.Scraped.{Family, Scraped}
use Rattle.expo_text.specs.Samples.{Sample}
use Rattle.expo_text.specs.Shifted.{WritesTo}
use Rattle.expo_text.specs.Shown.{Shown, shown_of_family}
use Rattle.expo_text.specs.Groups.{Group, group_of_children}
use Rattle.expo_text.specs.Lines.{AreLines, Written, LineEntry, IsLine}
use Rattle.expo_text.specs.Parts.{Part, AreParts}
use Rattle.expo_text.specs.Reads.{Match, IsHelpOf, word_of, IsLabel, IsSameSeries, HasDistinctLabels, IsOfOneChild, IsLower}
use Rattle.expo_text.specs.Reads.{IsWhole}

-- what a shown sample, of at most `places` digits, is worth in parts
abbrev pub worth : (places : ℕ) → Shown → Sample
worth places sample =
    record { name = sample.name; labels = sample.labels; value = sample.value *ℤ pos (10 ^ (places - sample.digits)) }

-- the group of a family with all its samples; a family without children has none
abbrev pub group_to : (places : ℕ) → Family → List Group
group_to places family = group_of_children family.desc family.children (map (worth places) (shown_of_family family))

-- the groups that a scrape prints, in the order of its families
abbrev pub groups_to : (places : ℕ) → Scraped → List Group
groups_to places scrape = flat_map (group_to places) scrape.families

-- a token writes this value: a number, before which a gauge's value may have a minus
abbrev pub WritesValueTo : (places : ℕ) → Kind → List ℕ → ℤ → Type 0
WritesValueTo places kind token value =
    ((n : ℕ) × WritesTo places token n × (value ≡ pos n))
    ⊎ ((digits : List ℕ) × (n : ℕ) × (kind ≡ Gauge) × (token ≡ codes "-" ++ digits) × WritesTo places digits n
    × (value ≡ neg_ℤ (pos n)))

-- a sample of a group of this kind, as it is written
pub record IsSampleTo (places : ℕ) (kind : Kind) (written : Written) (sample : Sample) : Type 0 where
  pub name : sample.name ≡ written.name
  pub labels : Match IsLabel written.labels sample.labels
  pub value : WritesValueTo places kind written.value sample.value

-- a group, as its lines give it: one type, at most one help
pub record IsGroupTo (places : ℕ) (part : Part) (group : Group) : Type 0 where
  pub name : group.name ≡ part.name
  pub spelled : IsMetricName group.name
  pub help : IsHelpOf part.helps group.help
  pub kind : part.types ≡ word_of group.kind ∷ []
  pub samples : Match (IsSampleTo places group.kind) part.samples group.samples

-- the value of `le` writes this bound: a number, or none
abbrev pub WritesBoundTo : (places : ℕ) → List ℕ → Option ℕ → Type 0
WritesBoundTo places token (Some n) = WritesTo places token n
WritesBoundTo places token None = token ≡ codes "+Inf"

-- a sample is a bucket of this family, of this bound
pub record IsBucketTo (places : ℕ) (name : List ℕ) (bound : Option ℕ) (sample : Sample) : Type 0 where
  pub named : sample.name ≡ name ++ codes "_bucket"
  pub token : List ℕ
  pub le : Contains sample.labels (codes "le", token)
  pub writes : WritesBoundTo places token bound

-- a sample of a histogram is a bucket of some bound, or its sum or its count, which have no `le`
abbrev pub IsOfHistogramTo : (places : ℕ) → (name : List ℕ) → Sample → Type 0
IsOfHistogramTo places name sample =
    ((bound : Option ℕ) × IsBucketTo places name bound sample)
    ⊎ (((sample.name ≡ name ++ codes "_sum") ⊎ (sample.name ≡ name ++ codes "_count"))
    × ((token : List ℕ) → ¬ (Contains sample.labels (codes "le", token))))

-- where both are buckets of one child, and the first one's bound is not above the other's, its value is not higher
abbrev pub IsNoHigherTo : (places : ℕ) → (name : List ℕ) → Sample → Sample → Type 0
IsNoHigherTo places name a b =
    (x y : Option ℕ) → IsBucketTo places name x a → IsBucketTo places name y b → IsOfOneChild a b → ¬ (IsLower y x)
    → a.value ≤ℤ b.value

-- what a group of a histogram keeps
pub record IsHistogramGroupTo (places : ℕ) (group : Group) : Type 0 where
  pub formed : All (IsOfHistogramTo places group.name) group.samples
  -- whatever the order of the lines
  pub rising : AllPairs (λ a b. IsNoHigherTo places group.name a b × IsNoHigherTo places group.name b a) group.samples
  pub whole : All (IsWhole group) group.samples

-- the bytes are an exposition of these groups: each line is one of the format, the lines of a group are unbroken, no series
-- stands twice, no sample has two labels of one name, and the buckets of histograms rise to their count
pub record ReadsTo (places : ℕ) (bytes : List ℕ) (groups : List Group) : Type 0 where
  pub lines : List (List ℕ)
  pub cut : AreLines bytes lines
  pub entries : List LineEntry
  pub formed : Match IsLine lines entries
  pub parts : List Part
  pub blocks : AreParts entries parts
  pub matched : Match (IsGroupTo places) parts groups
  pub unbroken : AllPairs (λ (a b : Group). a.name ≢ b.name) groups
  pub once : AllPairs (λ a b. ¬ (IsSameSeries a b)) (flat_map (λ (group : Group). group.samples) groups)
  pub labels : All HasDistinctLabels (flat_map (λ (group : Group). group.samples) groups)
  pub histograms : All (λ (group : Group). group.kind ≡ Histogram → IsHistogramGroupTo places group) groups
