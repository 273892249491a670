-- The samples of one child are of different series, and so are those of two children of a family.
use Rattle.std.proofs.Common.{◌≡◌, ◌≢◌, ℕ, ◌<◌, ◌^◌, List, [], ◌∷◌, ◌++◌, length, get_or, sym, ap, ◌∙◌, arith}
use Rattle.std.specs.Prelude.{zip, codes, slice_index}
use Rattle.std.specs.Ordering.{nat_cmp}
use Rattle.std.specs.Cmp.Lexicographic.{slice_cmp, lists_total}
use Rattle.std.specs.declared.cmp.Ordering.TheVariants.{Less, Equal}
use Rattle.std.proofs.lemmas.Cmp.{nat_list_cmp_total, tied_itself}
use Rattle.expo_text.specs.Shifted.{shifted}
use Rattle.expo_text.proofs.ShiftedNumbers.{shifted_injective, shifted_no_inf}
use Rattle.std.proofs.lemmas.List.{append_cancel_left}
use Rattle.std.proofs.lemmas.List.Elements.{recursion_from_All}
use Rattle.bucket_math.specs.Bounds.{AreBounds}
use Rattle.ledger_core.specs.declared.totals.HistTotals.{HistTotals}
use Rattle.metric_desc.specs.Desc.{Descriptor, IsDescOf}
use Rattle.metric_desc.specs.declared.kind.Kind.TheVariants.{Histogram as HistogramKind}
use Rattle.expo_text.specs.declared.number.Number.{Number}
use Rattle.expo_text.specs.declared.number.Number.TheVariants.{Counter, Histogram, Gauge}
use Rattle.expo_text.specs.Scraped.{Child, Family}
use Rattle.expo_text.specs.Shown.{Shown, shown_bounds, shown_last, shown_of_number, shown_of_child, shown_of_family}
use Rattle.expo_text.specs.Order.{IsChildBefore, IsNumberOf, IsFamily}
use Rattle.expo_text.specs.Reads.{AreSameLabels}
use Rattle.expo_text.proofs.LabelSets.{HasNoLe, le_is, le_there, zip_same, zip_no_le}
use Rattle.expo_text.proofs.Pairs.{Each, Pairs, Across, each_weaker, each_both, pairs_recursion, pairs_append, pairs_flat_map}
use Rattle.expo_text.proofs.Pairs.{pairs_weaker, across_by}
use Rattle.expo_text.proofs.Owned.{OwnedAs, each_bound, pairs_bounds, number_owned_as, owned_same}

-- two shown samples are of one series
pub record AreOneSeries (a b : Shown) : Type 0 where
  pub name : a.name ≡ b.name
  pub labels : AreSameLabels a.labels b.labels

-- two shown samples are of different series
abbrev pub AreApart : Shown → Shown → Type 0
AreApart a b = ¬ (AreOneSeries a b)

-- names that end differently differ
ends_differ : (name a b : List ℕ) (place : ℕ) → ¬ (get_or a place 0 ≡ get_or b place 0) → ¬ (name ++ a ≡ name ++ b)
ends_differ name a b place differ e = differ (ap (λ xs. get_or xs place 0) (append_cancel_left name a b e))

-- the name of a bucket is not that of a sum
pub bucket_no_sum : (name : List ℕ) → ¬ (name ++ codes "_bucket" ≡ name ++ codes "_sum")
bucket_no_sum name = ends_differ name (codes "_bucket") (codes "_sum") 1 (λ e. absurd (omega arith))

-- the name of a bucket is not that of a count
pub bucket_no_count : (name : List ℕ) → ¬ (name ++ codes "_bucket" ≡ name ++ codes "_count")
bucket_no_count name = ends_differ name (codes "_bucket") (codes "_count") 1 (λ e. absurd (omega arith))

-- the name of a sum is not that of a count
pub sum_no_count : (name : List ℕ) → ¬ (name ++ codes "_sum" ≡ name ++ codes "_count")
sum_no_count name = ends_differ name (codes "_sum") (codes "_count") 1 (λ e. absurd (omega arith))

-- buckets of one child with equal labels have equal bounds
bounds_same : (own : List (List ℕ × List ℕ)) (a b : List ℕ) → HasNoLe own → AreSameLabels (own ++ ((codes "le", a) ∷ []))
    (own ++ ((codes "le", b) ∷ [])) → a ≡ b
bounds_same own a b none same = sym (le_is own b a none (same.0 (codes "le", a) (le_there own a)))

module _ (desc : Descriptor) (own : List (List ℕ × List ℕ)) (are : AreBounds desc.bounds) (none : HasNoLe own) where
  -- each bound is below 2^64
  pub bound_small : (k : ℕ) → k < length desc.bounds → slice_index desc.bounds k < 2 ^ 64
  bound_small k within = let le = are.bounded k 0 within in omega arith

  -- the buckets of a child
  bounds_apart : (buckets : List ℕ) → Pairs AreApart (shown_bounds desc own buckets)
  bounds_apart buckets =
      pairs_bounds AreApart desc own buckets (λ j k lt within same.
      let e = shifted_injective desc.digits (slice_index desc.bounds j) (slice_index desc.bounds k) (bound_small j (omega arith))
      (bound_small k within)
      (bounds_same own (shifted desc.digits (slice_index desc.bounds j)) (shifted desc.digits (slice_index desc.bounds k)) none
      same.labels) in
      let rises = are.rising j k 0 lt within in
      absurd (omega arith))

  -- the last three samples of a child
  last_apart : (totals : HistTotals) → Pairs AreApart (shown_last desc own totals)
  last_apart totals = (
    (λ same. bucket_no_sum desc.name same.name, (λ same. bucket_no_count desc.name same.name, tt)),
    ((λ same. sum_no_count desc.name same.name, tt), (tt, tt)),
  )

  -- the samples of a histogram
  histogram_apart : (totals : HistTotals) → Pairs AreApart (shown_bounds desc own totals.buckets ++ shown_last desc own totals)
  histogram_apart totals =
      pairs_append AreApart (shown_bounds desc own totals.buckets) (shown_last desc own totals) (bounds_apart totals.buckets)
      (last_apart totals)
      (each_bound (λ s. Each (AreApart s) (shown_last desc own totals)) desc own totals.buckets (λ k within. (
        λ same. shifted_no_inf desc.digits (slice_index desc.bounds k) (bound_small k within)
            (bounds_same own (shifted desc.digits (slice_index desc.bounds k)) (codes "+Inf") none same.labels),
        (λ same. bucket_no_sum desc.name same.name, (λ same. bucket_no_count desc.name same.name, tt)),
      )))

-- the samples of a number
number_apart : (desc : Descriptor) (own : List (List ℕ × List ℕ)) (number : Number) → IsNumberOf desc.kind number
    → (desc.kind ≡ HistogramKind → AreBounds desc.bounds) → (desc.kind ≡ HistogramKind → HasNoLe own)
    → Pairs AreApart (shown_of_number desc own number)
number_apart desc own (Counter total) is are none = (tt, tt)
number_apart desc own (Histogram totals) is are none = histogram_apart desc own (are is.0) (none is.0) totals
number_apart desc own (Gauge totals) is are none = (tt, tt)

-- of two children, one before the other, the labels differ
pub before_labels : (labels : List (List ℕ)) (a b : Child) → length a.values ≡ length labels → length b.values ≡ length labels
    → Pairs (λ x y. x ≢ y) labels
    → IsChildBefore a b → ¬ (AreSameLabels (zip labels a.values) (zip labels b.values))
before_labels labels a b fit fits differ before same =
    let values : a.values ≡ b.values = zip_same labels a.values b.values fit fits differ same in
    let equal : slice_cmp (slice_cmp nat_cmp) b.values b.values ≡ Equal = tied_itself (lists_total nat_list_cmp_total) b.values in
    let less : slice_cmp (slice_cmp nat_cmp) b.values b.values ≡ Less = ap (λ x. slice_cmp (slice_cmp nat_cmp) x b.values)
    (sym values) ∙ before in
    cc

-- a child that fits its family
pub record IsFit (desc : Descriptor) (child : Child) : Type 0 where
  pub fit : length child.values ≡ length desc.labels
  pub number : IsNumberOf desc.kind child.number

pub all_fit : (family : Family) → IsFamily family → Each (IsFit family.desc) family.children
all_fit family is =
    each_weaker (λ (child : Child). (length child.values ≡ length family.desc.labels) × IsNumberOf family.desc.kind child.number)
    (IsFit family.desc)
    (λ child both. record { fit = both.0; number = both.1 }) family.children
    (each_both (λ (child : Child). length child.values ≡ length family.desc.labels)
    (λ (child : Child). IsNumberOf family.desc.kind child.number) family.children
    (recursion_from_All (λ (child : Child). length child.values ≡ length family.desc.labels) family.children is.fit)
    (recursion_from_All (λ (child : Child). IsNumberOf family.desc.kind child.number) family.children is.numbers))

module _ (desc : Descriptor) (kept : IsDescOf desc.kind desc.labels desc.bounds) where
  -- none of a histogram's child's own labels is `le`
  pub own_no_le : (child : Child) → desc.kind ≡ HistogramKind → HasNoLe (zip desc.labels child.values)
  own_no_le child kind = zip_no_le desc.labels child.values (kept.histogram kind).no_le

  -- what holds between the samples of two children, from what their labels are
  children_across : (R : Shown → Shown → Type 0) (a b : Child) → IsFit desc a → IsFit desc b
      → ((s t : Shown) → OwnedAs desc.kind (zip desc.labels a.values) s → OwnedAs desc.kind (zip desc.labels b.values) t → R s t)
      → Across R (shown_of_child desc a) (shown_of_child desc b)
  children_across R a b fit fits holds =
      across_by (OwnedAs desc.kind (zip desc.labels a.values)) (OwnedAs desc.kind (zip desc.labels b.values)) R holds
      (shown_of_child desc a) (shown_of_child desc b)
      (number_owned_as desc (zip desc.labels a.values) a.number fit.number (own_no_le a))
      (number_owned_as desc (zip desc.labels b.values) b.number fits.number (own_no_le b))

-- what holds between each two samples of a family, from within the children and across each two
pub pairs_family : (R : Shown → Shown → Type 0) (family : Family) → IsFamily family
    → IsDescOf family.desc.kind family.desc.labels family.desc.bounds
    → ((child : Child) → IsNumberOf family.desc.kind child.number → Pairs R (shown_of_child family.desc child))
    → ((a b : Child) → ¬ (AreSameLabels (zip family.desc.labels a.values) (zip family.desc.labels b.values))
    → (s t : Shown) → OwnedAs family.desc.kind (zip family.desc.labels a.values) s
    → OwnedAs family.desc.kind (zip family.desc.labels b.values) t → R s t)
    → Pairs R (shown_of_family family)
pairs_family R family is kept within across =
    let differ = pairs_recursion (λ x y. x ≢ y) family.desc.labels kept.labels_ok.distinct in
    pairs_flat_map R (shown_of_child family.desc) family.children
    (each_weaker (IsFit family.desc) (λ child. Pairs R (shown_of_child family.desc child))
    (λ child fit. within child fit.number) family.children (all_fit family is))
    (pairs_weaker (IsFit family.desc) IsChildBefore
    (λ a b. Across R (shown_of_child family.desc a) (shown_of_child family.desc b))
    (λ a b fit fits before. children_across family.desc kept R a b fit fits
    (across a b (before_labels family.desc.labels a b fit.fit fits.fit differ before))) family.children
    (all_fit family is)
    (pairs_recursion IsChildBefore family.children is.ordered))

-- the samples of a family are of different series
pub family_apart : (family : Family) → IsFamily family → IsDescOf family.desc.kind family.desc.labels family.desc.bounds
    → Pairs AreApart (shown_of_family family)
family_apart family is kept =
    pairs_family AreApart family is kept
    (λ child number. number_apart family.desc (zip family.desc.labels child.values) child.number number
    (λ e. (kept.histogram e).bounds_ok) (own_no_le family.desc kept child))
    (λ a b differ s t left right same. differ
    (owned_same family.desc.kind (zip family.desc.labels a.values) (zip family.desc.labels b.values) s t left right
    same.labels))
