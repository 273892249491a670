-- The text of a scrape has fewer than 2^64 bytes.
use Rattle.std.proofs.Common.{◌≡◌, ℕ, Bool, true, false, zero, suc, ◌+◌, ◌<◌, ◌≤◌, ◌^◌, List, [], ◌∷◌, ◌++◌, length, map, get_or}
use Rattle.std.proofs.Common.{codes, sum, take, All, arith, length-append}
use Rattle.std.specs.Prelude.{ℤ, pos, ◌-ℤ◌, if◌then◌else◌, slice_index, nat_lt}
use Rattle.expo_text.specs.Shifted.{shifted, signed_shifted}
use Rattle.std.specs.List.{flat_map, zip, range_with_len}
use Rattle.std.proofs.lemmas.List.Elements.{All-append, All-cons, All-nil, All-weaker}
use Rattle.std.proofs.lemmas.List.Sums.{sum_by-take-le}
use Rattle.std.proofs.lemmas.List.FromFn.{length-map-range_with_len}
use Rattle.std.proofs.lemmas.Slice.Zip.{length-zip}
use Rattle.bucket_math.specs.Buckets.{cumulated}
use Rattle.metric_names.specs.Escapes.{help_byte}
use Rattle.ledger_core.specs.declared.totals.HistTotals.{HistTotals}
use Rattle.metric_desc.specs.Desc.{Descriptor}
use Rattle.metric_desc.specs.declared.kind.Kind.{Kind}
use Rattle.metric_desc.specs.declared.kind.Kind.TheVariants.{Counter as CounterKind, Histogram as HistogramKind}
use Rattle.metric_desc.specs.declared.kind.Kind.TheVariants.{Gauge as GaugeKind}
use Rattle.expo_text.specs.declared.number.Number.{Number}
use Rattle.expo_text.specs.declared.number.Number.TheVariants.{Counter, Histogram, Gauge}
use Rattle.expo_text.specs.Scraped.{Child, Family, Scraped}
use Rattle.expo_text.specs.Order.{IsNumberOf, IsFamily, IsScrape}
use Rattle.expo_text.specs.Spelled.{IsOfWords, IsSpelledDesc, IsSpelledChild, IsSpelled, IsSpelledIfPrinted}
use Rattle.expo_text.specs.Shown.{Shown, shown_bucket, shown_bounds, shown_last, shown_of_number, shown_of_child}
use Rattle.expo_text.specs.Text.{help_line, type_line, kind_text}
use Rattle.expo_text.specs.Shown.{shown_line, shown_group_of, shown_group_text, shown_text}
use Rattle.expo_text.proofs.Sizes.{flat_map-short, nested-short, help_byte-short, IsShortLabel, label_text-short, zip-short}
use Rattle.expo_text.proofs.Sizes.{IsShortSample, shown_line-short, shifted-short, pos-short, difference-short}

-- the samples of a number
either-small : (c : Bool) (a b : ℕ) → a < 2 ^ 64 → b < 2 ^ 64 → (if c then a else b) < 2 ^ 64
either-small true a b first second = first
either-small false a b first second = second

cumulated-small : (buckets : List ℕ) (len k : ℕ) → sum buckets < 2 ^ 64 → cumulated buckets len k < 2 ^ 64
cumulated-small buckets len k small =
    let part : sum (take (k + 1) buckets) ≤ sum buckets = sum_by-take-le (λ x. x) buckets (k + 1) in
    either-small (nat_lt k len) (sum (take (k + 1) buckets)) (sum buckets) (omega (arith, part, small)) small

map-range-all : {X : Type 0} (P : X → Type 0) (f : ℕ → X) (a n : ℕ) → ((k : ℕ) → k < a + n → P (f k))
    → All P (map f (range_with_len a n))
map-range-all P f a zero each = All-nil P
map-range-all P f a (suc n) each =
    All-cons P (f a) (map f (range_with_len (a + 1) n)) (each a (omega arith))
    (map-range-all P f (a + 1) n (λ k below. each k (omega (arith, below))))

bucket-short : (desc : Descriptor) (labels : List (List ℕ × List ℕ)) (bound : List ℕ) (value : ℕ) → length desc.name ≤ 128
    → All IsShortLabel labels → length labels ≤ 8 → length bound ≤ 256 → value < 2 ^ 64
    → IsShortSample (shown_bucket desc labels bound value)
bucket-short desc labels bound value name each few short small =
    let le : List ℕ × List ℕ = (codes "le", bound) in
    let last = label_text-short (codes "le") bound (omega arith) short in
    let count = pos-short 0 value (omega arith) small in
    record {
      name = simp length-append (omega (arith, name));
      labels = All-append IsShortLabel labels (le ∷ []) each (All-cons IsShortLabel le [] last (All-nil IsShortLabel));
      few = simp length-append (omega (arith, few));
      value = count;
    }

series-short : (name suffix : List ℕ) (labels : List (List ℕ × List ℕ)) (digits value : ℕ) → length name ≤ 128
    → length suffix ≤ 7 → All IsShortLabel labels → length labels ≤ 8 → digits ≤ 9 → value < 2 ^ 64
    → IsShortSample (record { name = name ++ suffix; labels = labels; value = pos value; digits = digits })
series-short name suffix labels digits value short_name short_suffix each few few_digits small =
    record {
      name = simp length-append (omega (arith, short_name, short_suffix));
      labels = each;
      few = omega (arith, few);
      value = pos-short digits value few_digits small;
    }

-- what is known of a child's samples
pub record AreShort (samples : List Shown) : Type 0 where
  pub each : All IsShortSample samples
  pub few : length samples ≤ 27

All-three : {X : Type 0} (P : X → Type 0) {x y z : X} → P x → P y → P z → All P (x ∷ y ∷ z ∷ [])
All-three P {x} {y} {z} first second third = All-cons P x (y ∷ z ∷ []) first
    (All-cons P y (z ∷ []) second (All-cons P z [] third (All-nil P)))

histogram-short : (desc : Descriptor) (labels : List (List ℕ × List ℕ)) (totals : HistTotals) → length desc.name ≤ 128
    → desc.digits ≤ 9 → All IsShortLabel labels → length labels ≤ 8 → length desc.bounds ≤ 24
    → ((k : ℕ) → k < length desc.bounds → slice_index desc.bounds k < 2 ^ 64) → sum totals.buckets < 2 ^ 64 → totals.sum < 2 ^ 64
    → totals.count < 2 ^ 64 → AreShort (shown_of_number desc labels (Histogram totals))
histogram-short desc labels totals name few_digits each few few_bounds bounds buckets small_sum small_count =
    let sample : ℕ → Shown = λ k. shown_bucket desc labels (shifted desc.digits (slice_index desc.bounds k))
    (cumulated totals.buckets (length desc.bounds) k) in
    let first = map-range-all IsShortSample sample 0 (length desc.bounds) (λ k below.
    let digits = shifted-short desc.digits (slice_index desc.bounds k) few_digits (bounds k (omega (arith, below))) in
    bucket-short desc labels (shifted desc.digits (slice_index desc.bounds k)) _ name each few (omega (arith, digits))
    (cumulated-small totals.buckets (length desc.bounds) k buckets)) in
    let all = bucket-short desc labels (codes "+Inf") (sum totals.buckets) name each few (omega arith) buckets in
    let total = series-short desc.name (codes "_sum") labels desc.digits totals.sum name (omega arith) each few few_digits
    small_sum in
    let count = series-short desc.name (codes "_count") labels 0 totals.count name (omega arith) each few (omega arith)
    small_count in
    record {
      each = All-append IsShortSample (shown_bounds desc labels totals.buckets) (shown_last desc labels totals) first
          (All-three IsShortSample all total count);
      few = simp (length-append, length-map-range_with_len) (omega (arith, few_bounds));
    }

one-short : (name : List ℕ) (labels : List (List ℕ × List ℕ)) (digits : ℕ) (value : ℤ) → length name ≤ 128
    → All IsShortLabel labels → length labels ≤ 8 → length (signed_shifted digits value) ≤ 31
    → AreShort (record { name = name; labels = labels; value = value; digits = digits } ∷ [])
one-short name labels digits value short_name each few short =
    let sample : Shown = record { name = name; labels = labels; value = value; digits = digits } in
    let is : IsShortSample sample = record {
      name = omega (arith, short_name);
      labels = each;
      few = omega (arith, few);
      value = short;
    } in
    record { each = All-cons IsShortSample sample [] is (All-nil IsShortSample); few = omega arith }

pub number-short : (desc : Descriptor) (labels : List (List ℕ × List ℕ)) (number : Number) → IsSpelledDesc desc
    → IsNumberOf desc.kind number → IsOfWords number → All IsShortLabel labels → length labels ≤ 8
    → AreShort (shown_of_number desc labels number)
number-short desc labels (Counter total) spelled kind small each few = one-short desc.name labels desc.digits (pos total)
    spelled.name.short each few (pos-short desc.digits total spelled.digits small)
number-short desc labels (Gauge totals) spelled kind small each few =
    one-short desc.name labels desc.digits (pos totals.up -ℤ pos totals.down) spelled.name.short each few
    (difference-short desc.digits totals.up totals.down spelled.digits small.0 small.1)
number-short desc labels (Histogram totals) spelled kind small each few =
    let bounds = (spelled.kept.histogram kind.0).bounds_ok in
    histogram-short desc labels totals spelled.name.short spelled.digits each few bounds.few
    (λ k below. let bound = bounds.bounded k 0 below in omega (arith, bound))
    (rw kind.1 at small.2) small.1 small.2

child-short : (desc : Descriptor) (child : Child) → IsSpelledDesc desc → length child.values ≡ length desc.labels
    → IsNumberOf desc.kind child.number → IsSpelledChild child
    → length (flat_map shown_line (shown_of_child desc child)) ≤ 162000
child-short desc child spelled fit kind child_spelled =
    let labels = zip desc.labels child.values in
    let each = zip-short desc.labels child.values spelled.labels child_spelled.values in
    let few : length labels ≤ 8 = rw length-zip (omega (arith, fit, spelled.kept.labels_ok.few)) in
    let samples = number-short desc labels child.number spelled kind child_spelled.number each few in
    let lines = flat_map-short shown_line 6000 (shown_of_child desc child)
    (All-weaker IsShortSample (λ sample. length (shown_line sample) ≤ 6000) shown_line-short (shown_of_child desc child)
    samples.each) in
    omega (arith, lines, samples.few)

kind-short : (kind : Kind) → length (kind_text kind) ≤ 9
kind-short CounterKind = omega arith
kind-short HistogramKind = omega arith
kind-short GaugeKind = omega arith

help-parts-short : (name escaped : List ℕ) → length name ≤ 128 → length escaped ≤ 2048
    → length (codes "# HELP " ++ name ++ codes " " ++ escaped ++ codes "\n") ≤ 2200
help-parts-short name escaped short_name short = simp length-append (omega (arith, short_name, short))

help_line-short : (name help : List ℕ) → length name ≤ 128 → length help ≤ 1024 → length (help_line name help) ≤ 2200
help_line-short name [] short_name short_help = omega arith
help_line-short name (b ∷ help) short_name short_help =
    let escaped = flat_map-short help_byte 2 (b ∷ help) (λ k d within. help_byte-short (get_or (b ∷ help) k d)) in
    help-parts-short name (flat_map help_byte (b ∷ help)) short_name (omega (arith, escaped, short_help))

type_line-short : (desc : Descriptor) → length desc.name ≤ 128 → length (type_line desc) ≤ 200
type_line-short desc short_name =
    let kind = kind-short desc.kind in
    simp length-append (omega (arith, short_name, kind))

three-short : (a b c : List ℕ) → length a ≤ 2200 → length b ≤ 200 → length c ≤ 41472000 → length (a ++ b ++ c) ≤ 50000000
three-short a b c first second third = simp length-append (omega (arith, first, second, third))

group_of-short : (desc : Descriptor) (children : List Child) (samples : List Shown)
    → length (help_line desc.name desc.help) ≤ 2200 → length (type_line desc) ≤ 200
    → length (flat_map shown_line samples) ≤ 41472000 → length (shown_group_of desc children samples) ≤ 50000000
group_of-short desc [] samples help kind lines = omega arith
group_of-short desc (_ ∷ _) samples help kind lines = three-short (help_line desc.name desc.help) (type_line desc)
    (flat_map shown_line samples) help kind lines

printed-short : (desc : Descriptor) (children : List Child) → IsFamily (record { desc = desc; children = children })
    → IsSpelled (record { desc = desc; children = children })
    → length (shown_group_of desc children (flat_map (shown_of_child desc) children)) ≤ 50000000
printed-short desc children is spelled =
    let each : All (λ (child : Child). length (flat_map shown_line (shown_of_child desc child)) ≤ 162000) children =
    λ k d within. child-short desc (get_or children k d) spelled.desc (is.fit k d within) (is.numbers k d within)
    (spelled.children k d within) in
    let lines = nested-short shown_line (shown_of_child desc) 162000 children each in
    let name = spelled.desc.name.short in
    group_of-short desc children (flat_map (shown_of_child desc) children)
    (help_line-short desc.name desc.help name spelled.desc.help.short) (type_line-short desc name)
    (omega (arith, lines, is.few))

children-short : (desc : Descriptor) (children : List Child) → IsFamily (record { desc = desc; children = children })
    → (0 < length children → IsSpelled (record { desc = desc; children = children }))
    → length (shown_group_of desc children (flat_map (shown_of_child desc) children)) ≤ 50000000
children-short desc [] is spelled = omega arith
children-short desc (child ∷ children) is spelled = printed-short desc (child ∷ children) is (spelled (omega arith))

group-short : (family : Family) → IsFamily family → IsSpelledIfPrinted family → length (shown_group_text family) ≤ 50000000
group-short family is spelled = children-short family.desc family.children is spelled

pub text-bounded : (scrape : Scraped) → IsScrape scrape → All IsSpelledIfPrinted scrape.families → length (shown_text scrape) < 2
    ^ 33
text-bounded scrape is spelled =
    let each : All (λ (family : Family). length (shown_group_text family) ≤ 50000000) scrape.families = λ k d within. group-short
    (get_or scrape.families k d) (is.each k d within) (spelled k d within) in
    let all = flat_map-short shown_group_text 50000000 scrape.families each in
    omega (arith, all, is.few)

pub text-short : (scrape : Scraped) → IsScrape scrape → All IsSpelledIfPrinted scrape.families → length (shown_text scrape) < 2 ^
    64
text-short scrape is spelled = let bounded = text-bounded scrape is spelled in omega (arith, bounded)
