-- The groups of a scrape are such as a scrape prints: names, labels, values and signs.
use Rattle.std.proofs.Common.{◌≡◌, ◌≢◌, ℕ, zero, suc, ◌-◌, ◌<◌, ◌^◌, Bool, true, false, ltb, List, [], ◌∷◌, ◌++◌, length}
use Rattle.std.proofs.Common.{◌⊎◌, ◌≤◌}
use Rattle.std.proofs.Common.{inl, inr, refl, sym, subst, arith, length-append}
use Rattle.std.specs.Prelude.{pos, negsuc, ◌-ℤ◌, nat_abs, All, IsTrue, ◌&&◌, ◌||◌, ◌==◌, nat_lt, sum, zip, codes, slice_index}
use Rattle.std.proofs.lemmas.Bool.{cond_both}
use Rattle.std.proofs.lemmas.List.Elements.{All-from_recursion, recursion_from_All, All-append, All-from_get_or}
use Rattle.bucket_math.specs.Buckets.{cumulated}
use Rattle.metric_names.specs.Spelling.{is_letter, is_digit, name_takes}
use Rattle.metric_names.specs.MetricName.{IsMetricName}
use Rattle.metric_names.specs.LabelName.{IsLabelName}
use Rattle.metric_desc.specs.Desc.{Descriptor}
use Rattle.metric_desc.specs.declared.kind.Kind.{Kind}
use Rattle.metric_desc.specs.declared.kind.Kind.TheVariants.{Counter as CounterKind, Histogram as HistogramKind}
use Rattle.metric_desc.specs.declared.kind.Kind.TheVariants.{Gauge as GaugeKind}
use Rattle.expo_text.specs.declared.number.Number.{Number}
use Rattle.expo_text.specs.declared.number.Number.TheVariants.{Counter, Histogram, Gauge}
use Rattle.expo_text.specs.Scraped.{Child, Family, Scraped}
use Rattle.expo_text.specs.Shown.{Shown, shown_bounds, shown_last, shown_of_number, shown_of_child, shown_of_family}
use Rattle.expo_text.specs.Order.{IsNumberOf, IsFamily, IsScrape}
use Rattle.expo_text.specs.Spelled.{IsOfWords, IsSpelledChild, IsSpelled, IsSpelledIfPrinted}
use Rattle.expo_text.proofs.ShownGroups.{ShownGroup, shown_groups, group_for}
use Rattle.expo_text.proofs.Entries.{IsPrintedSample, IsPrintedGroup}
use Rattle.expo_text.proofs.Pairs.{Each, each_weaker, each_both, each_any, each_append, each_flat_map}
use Rattle.expo_text.proofs.SamplesRead.{IsWithin}
use Rattle.expo_text.proofs.Families.{IsPrinted, HasFew, each_group}
use Rattle.expo_text.proofs.Owned.{IsOfNames, IsOwned, each_bound, number_names, number_owned}
use Rattle.expo_text.proofs.Once.{IsKnown, all_known}
use Rattle.expo_text.proofs.Whole.{cumulated-le_sum}

-- a byte that a name may have anywhere
abbrev pub IsNameByte : ℕ → Type 0
IsNameByte byte = IsTrue (name_takes true 1 byte)

-- the name of a sample has a byte or more, each one of a name
pub record IsSampleName (name : List ℕ) : Type 0 where
  pub nonempty : 0 < length name
  pub spelled : All IsNameByte name

-- what a name may have at some place it may have at a later one
later : (letter digit place colon : Bool) → IsTrue (letter || (place && digit) || colon)
    → IsTrue (letter || (true && digit) || colon)
later true digit place colon takes = refl
later false true place colon takes = refl
later false false true colon takes = takes
later false false false colon takes = takes

-- a metric name is such a name
from_metric : (name : List ℕ) → IsMetricName name → IsSampleName name
from_metric name is = record {
  nonempty = is.nonempty;
  spelled = All-from_get_or IsNameByte name 0 (λ k within.
      later (is_letter (slice_index name k)) (is_digit (slice_index name k)) (nat_lt 0 k) (true && (slice_index name k == 58))
      (is.spelled k within));
}

-- and so is such a name with such bytes after it
with_end : (name end : List ℕ) → IsSampleName name → All IsNameByte end → IsSampleName (name ++ end)
with_end name end is more = record {
  nonempty = (let some = is.nonempty in omega (arith, length-append name end));
  spelled = All-append IsNameByte name end is.spelled more;
}

-- the names of a kind's samples are such names
metric_names : (name : List ℕ) (kind : Kind) → IsMetricName name → IsOfNames IsSampleName name kind
metric_names name kind is =
    let own = from_metric name is in
    record {
      counter = λ _. own;
      bucket = λ _. with_end name (codes "_bucket") own (All-from_recursion IsNameByte (codes "_bucket") (
        refl,
        (refl, (refl, (refl, (refl, (refl, (refl, tt)))))),
      ));
      sum = λ _. with_end name (codes "_sum") own (All-from_recursion IsNameByte (codes "_sum") (
        refl,
        (refl, (refl, (refl, tt))),
      ));
      count = λ _. with_end name (codes "_count") own (All-from_recursion IsNameByte (codes "_count") (
        refl,
        (refl, (refl, (refl, (refl, (refl, tt))))),
      ));
      gauge = λ _. own;
    }

-- the label of a bucket's bound is spelled as a label name
le_spelled : (k : ℕ) → k < length (codes "le") → IsTrue (name_takes false k (slice_index (codes "le") k))
le_spelled zero within = refl
le_spelled (suc zero) within = refl
le_spelled (suc (suc k)) within = absurd (omega arith)

-- so `le` is a label name
le_name : IsLabelName (codes "le")
le_name = record { nonempty = omega arith; short = omega arith; spelled = le_spelled; free = refl }

-- a label with a label name
abbrev pub IsNamedLabel : List ℕ × List ℕ → Type 0
IsNamedLabel label = IsLabelName label.0

-- a child's own labels have the names of its family's
own_labels : (labels values : List (List ℕ)) → Each IsLabelName labels → Each IsNamedLabel (zip labels values)
own_labels [] values names = tt
own_labels (label ∷ labels) [] names = tt
own_labels (label ∷ labels) (value ∷ values) names = (names.0, own_labels labels values names.1)

-- the labels of a child's samples have label names
owned_labels : (own : List (List ℕ × List ℕ)) (sample : Shown) → All IsNamedLabel own → IsOwned own sample
    → All IsNamedLabel sample.labels
owned_labels own sample names (inl e) = subst (All IsNamedLabel) (sym e) names
owned_labels own sample names (inr e) =
    subst (All IsNamedLabel) (sym e.1)
    (All-append IsNamedLabel own ((codes "le", e.0) ∷ []) names
    (All-from_recursion IsNamedLabel ((codes "le", e.0) ∷ []) (le_name, tt)))

-- the difference of two words is below 2^64 on either side
difference : (up down : ℕ) → up < 2 ^ 64 → down < 2 ^ 64 → nat_abs (pos up -ℤ pos down) < 2 ^ 64
difference up zero few fewer = omega arith
difference up (suc down) few fewer =
    cond_both (ltb up (suc down)) (negsuc (suc down - suc up)) (pos (up - suc down)) (λ z. nat_abs z < 2 ^ 64) (λ _. omega arith)
    (λ _. omega arith)

-- a value below 2^64 on either side of zero
abbrev pub IsSmall : Shown → Type 0
IsSmall sample = nat_abs sample.value < 2 ^ 64

-- the values of a number's samples are below 2^64 on either side
pub number_small : (desc : Descriptor) (own : List (List ℕ × List ℕ)) (number : Number) → IsNumberOf desc.kind number
    → IsOfWords number
    → Each IsSmall (shown_of_number desc own number)
number_small desc own (Counter total) is words = (words, tt)
number_small desc own (Histogram totals) is words =
    each_append IsSmall (shown_bounds desc own totals.buckets) (shown_last desc own totals)
    (each_bound IsSmall desc own totals.buckets (λ k _.
    let le = cumulated-le_sum totals.buckets (length desc.bounds) k in
    let few : totals.count < 2 ^ 64 = words.2 in
    let e : totals.count ≡ sum totals.buckets = is.1 in
    omega arith))
    (subst (λ n. n < 2 ^ 64) is.1 words.2, (words.1, (words.2, tt)))
number_small desc own (Gauge totals) is words = (difference totals.up totals.down words.0 words.1, tt)

-- the samples of a number are such as a scrape prints
number_printed : (desc : Descriptor) (own : List (List ℕ × List ℕ)) (number : Number) → IsNumberOf desc.kind number
    → IsOfWords number
    → IsMetricName desc.name → All IsNamedLabel own → Each IsPrintedSample (shown_of_number desc own number)
number_printed desc own number is words name labels =
    each_weaker (λ sample. (IsSampleName sample.name × IsOwned own sample) × IsSmall sample) IsPrintedSample
    (λ sample known. record {
      nonempty = known.0.0.nonempty;
      spelled = known.0.0.spelled;
      labels = owned_labels own sample labels known.0.1;
      value = known.1;
    }) (shown_of_number desc own number)
    (each_both (λ sample. IsSampleName sample.name × IsOwned own sample) IsSmall (shown_of_number desc own number)
    (each_both (λ sample. IsSampleName sample.name) (IsOwned own) (shown_of_number desc own number)
    (number_names IsSampleName desc own number is (metric_names desc.name desc.kind name)) (number_owned desc own number))
    (number_small desc own number is words))

-- a value not below zero
abbrev pub IsNatural : Shown → Type 0
IsNatural sample = (n : ℕ) × (sample.value ≡ pos n)

-- no value of another kind than a gauge is below zero
number_natural : (desc : Descriptor) (own : List (List ℕ × List ℕ)) (number : Number) → IsNumberOf desc.kind number
    → desc.kind ≢ GaugeKind
    → Each IsNatural (shown_of_number desc own number)
number_natural desc own (Counter total) is other = ((total, refl), tt)
number_natural desc own (Histogram totals) is other =
    each_append IsNatural (shown_bounds desc own totals.buckets) (shown_last desc own totals)
    (each_bound IsNatural desc own totals.buckets (λ k _. (cumulated totals.buckets (length desc.bounds) k, refl)))
    ((sum totals.buckets, refl), ((totals.sum, refl), ((totals.count, refl), tt)))
number_natural desc own (Gauge totals) is other = absurd (other is)

-- a kind is that of a gauge or another
gauge_or_not : (kind : Kind) → (kind ≡ GaugeKind) ⊎ (kind ≢ GaugeKind)
gauge_or_not CounterKind = inr (λ e. cc)
gauge_or_not HistogramKind = inr (λ e. cc)
gauge_or_not GaugeKind = inl refl

-- what holds of each sample of a spelled family
pub each_sample : (P : Shown → Type 0) (family : Family) → IsFamily family → IsSpelled family
    → ((child : Child) → IsNumberOf family.desc.kind child.number → IsSpelledChild child
    → Each P (shown_of_child family.desc child))
    → Each P (shown_of_family family)
each_sample P family is spelled holds =
    each_flat_map P (shown_of_child family.desc) family.children
    (each_weaker (λ (child : Child). IsNumberOf family.desc.kind child.number × IsSpelledChild child)
    (λ child. Each P (shown_of_child family.desc child))
    (λ child known. holds child known.0 known.1) family.children
    (each_both (λ (child : Child). IsNumberOf family.desc.kind child.number) IsSpelledChild family.children
    (recursion_from_All (λ (child : Child). IsNumberOf family.desc.kind child.number) family.children is.numbers)
    (recursion_from_All IsSpelledChild family.children spelled.children)))

-- the group of a spelled family
family_printed : (family : Family) → IsFamily family → IsSpelled family → IsPrintedGroup (group_for family)
family_printed family is spelled = record {
  name = spelled.desc.name;
  help = spelled.desc.help;
  samples =
      All-from_recursion IsPrintedSample (shown_of_family family)
      (each_sample IsPrintedSample family is spelled (λ child number known.
      number_printed family.desc (zip family.desc.labels child.values) child.number number known.number spelled.desc.name
      (All-from_recursion IsNamedLabel (zip family.desc.labels child.values)
      (own_labels family.desc.labels child.values (recursion_from_All IsLabelName family.desc.labels spelled.desc.labels)))));
  signs =
      (elim (gauge_or_not family.desc.kind) [
        | inl e ↦ inl e
        | inr other ↦
            inr (All-from_recursion IsNatural (shown_of_family family)
            (each_sample IsNatural family is spelled (λ child number known.
            number_natural family.desc (zip family.desc.labels child.values) child.number number other)))
      ]);
}

-- the groups of a scrape are such as a scrape prints
pub printed : (scrape : Scraped) → IsScrape scrape → All IsSpelledIfPrinted scrape.families
    → All IsPrintedGroup (shown_groups scrape)
printed scrape is spelled =
    All-from_recursion IsPrintedGroup (shown_groups scrape)
    (each_group IsPrintedGroup scrape.families
    (each_weaker IsKnown (λ family. IsPrinted family → IsPrintedGroup (group_for family))
    (λ family known printed. family_printed family known.kept (known.spelled printed)) scrape.families
    (all_known scrape is spelled)))

-- the samples of a number are shifted by no more digits than their family
pub number_within : (places : ℕ) (desc : Descriptor) (own : List (List ℕ × List ℕ)) (number : Number) → desc.digits ≤ places
    → Each (IsWithin places) (shown_of_number desc own number)
number_within places desc own (Counter total) within = (within, tt)
number_within places desc own (Histogram totals) within =
    each_append (IsWithin places) (shown_bounds desc own totals.buckets) (shown_last desc own totals)
    (each_bound (IsWithin places) desc own totals.buckets (λ k _. omega arith))
    ((omega arith), (within, ((omega arith), tt)))
number_within places desc own (Gauge totals) within = (within, tt)

-- the samples of each group are shifted by at most so many digits
pub all_within : (places : ℕ) (scrape : Scraped) → Each (HasFew places) scrape.families
    → Each (λ (group : ShownGroup). Each (IsWithin places) group.samples) (shown_groups scrape)
all_within places scrape few =
    each_group (λ (group : ShownGroup). Each (IsWithin places) group.samples) scrape.families
    (each_weaker (HasFew places) (λ family. IsPrinted family → Each (IsWithin places) (shown_of_family family))
    (λ family within printed.
    each_flat_map (IsWithin places) (shown_of_child family.desc) family.children
    (each_any (λ child. Each (IsWithin places) (shown_of_child family.desc child))
    (λ child. number_within places family.desc (zip family.desc.labels child.values) child.number (within printed))
    family.children)) scrape.families few)
