-- The names and the labels of the samples of a child.
use Rattle.std.proofs.Common.{◌≡◌, ℕ, ◌<◌, List, [], ◌∷◌, ◌++◌, length, ◌⊎◌, inl, inr, refl, sym, subst, arith}
use Rattle.std.specs.Prelude.{zip, codes, slice_index}
use Rattle.std.specs.List.{range_with_len}
use Rattle.std.proofs.lemmas.List.Elements.{recursion_from_All}
use Rattle.bucket_math.specs.Buckets.{cumulated}
use Rattle.metric_desc.specs.Desc.{Descriptor}
use Rattle.metric_desc.specs.declared.kind.Kind.{Kind}
use Rattle.metric_desc.specs.declared.kind.Kind.TheVariants.{Counter as CounterKind, Histogram as HistogramKind}
use Rattle.metric_desc.specs.declared.kind.Kind.TheVariants.{Gauge as GaugeKind}
use Rattle.expo_text.specs.declared.number.Number.{Number}
use Rattle.expo_text.specs.declared.number.Number.TheVariants.{Counter, Histogram, Gauge}
use Rattle.expo_text.specs.Scraped.{Child, Family}
use Rattle.expo_text.specs.Shown.{Shown, shown_bucket, shown_bounds, shown_last, shown_of_number, shown_of_child}
use Rattle.expo_text.specs.Shown.{shown_of_family}
use Rattle.expo_text.specs.Order.{IsNumberOf, IsFamily}
use Rattle.expo_text.proofs.Pairs.{Each, Pairs, each_weaker, each_append, each_map, each_flat_map, each_range, pairs_map}
use Rattle.expo_text.proofs.Pairs.{pairs_range}
use Rattle.expo_text.specs.Shifted.{shifted}
use Rattle.expo_text.specs.Reads.{AreSameLabels}
use Rattle.expo_text.proofs.LabelSets.{HasNoLe, one_le, turned, before_le}

-- P holds of the names under which samples of a family stand
pub record IsOfNames (P : List ℕ → Type 0) (name : List ℕ) (kind : Kind) : Type 0 where
  pub counter : kind ≡ CounterKind → P name
  pub bucket : kind ≡ HistogramKind → P (name ++ codes "_bucket")
  pub sum : kind ≡ HistogramKind → P (name ++ codes "_sum")
  pub count : kind ≡ HistogramKind → P (name ++ codes "_count")
  pub gauge : kind ≡ GaugeKind → P name

-- what holds of the samples of all bounds
pub each_bound : (P : Shown → Type 0) (desc : Descriptor) (own : List (List ℕ × List ℕ)) (buckets : List ℕ)
    → ((k : ℕ) → k < length desc.bounds
    → P (shown_bucket desc own (shifted desc.digits (slice_index desc.bounds k)) (cumulated buckets (length desc.bounds) k)))
    → Each P (shown_bounds desc own buckets)
each_bound P desc own buckets holds =
    each_map P (λ k. shown_bucket desc own (shifted desc.digits (slice_index desc.bounds k)) (cumulated buckets (length
    desc.bounds) k))
    (range_with_len 0 (length desc.bounds))
    (each_range (λ k. P (shown_bucket desc own (shifted desc.digits (slice_index desc.bounds k)) (cumulated buckets (length
    desc.bounds) k)))
    0 (length desc.bounds) (λ k _ within. holds k (omega (arith, within))))

-- what holds between the samples of each two bounds
pub pairs_bounds : (R : Shown → Shown → Type 0) (desc : Descriptor) (own : List (List ℕ × List ℕ)) (buckets : List ℕ)
    → ((j k : ℕ) → j < k → k < length desc.bounds
    → R (shown_bucket desc own (shifted desc.digits (slice_index desc.bounds j)) (cumulated buckets (length desc.bounds) j))
    (shown_bucket desc own (shifted desc.digits (slice_index desc.bounds k)) (cumulated buckets (length desc.bounds) k)))
    → Pairs R (shown_bounds desc own buckets)
pairs_bounds R desc own buckets holds =
    pairs_map R (λ k. shown_bucket desc own (shifted desc.digits (slice_index desc.bounds k)) (cumulated buckets (length
    desc.bounds) k))
    (range_with_len 0 (length desc.bounds))
    (pairs_range (λ j k. R (shown_bucket desc own (shifted desc.digits (slice_index desc.bounds j))
    (cumulated buckets (length desc.bounds) j))
    (shown_bucket desc own (shifted desc.digits (slice_index desc.bounds k)) (cumulated buckets (length desc.bounds) k)))
    0 (length desc.bounds) (λ j k _ lt within. holds j k lt (omega (arith, within))))

-- the names of a number's samples
pub number_names : (P : List ℕ → Type 0) (desc : Descriptor) (own : List (List ℕ × List ℕ)) (number : Number)
    → IsNumberOf desc.kind number → IsOfNames P desc.name desc.kind → Each (λ (sample : Shown). P sample.name)
    (shown_of_number desc own number)
number_names P desc own (Counter total) is names = (names.counter is, tt)
number_names P desc own (Histogram totals) is names =
    each_append (λ (sample : Shown). P sample.name) (shown_bounds desc own totals.buckets) (shown_last desc own totals)
    (each_bound (λ (sample : Shown). P sample.name) desc own totals.buckets (λ k _. names.bucket is.0))
    (names.bucket is.0, (names.sum is.0, (names.count is.0, tt)))
number_names P desc own (Gauge totals) is names = (names.gauge is, tt)

-- the names of a family's samples
pub family_names : (P : List ℕ → Type 0) (family : Family) → IsFamily family → IsOfNames P family.desc.name family.desc.kind
    → Each (λ (sample : Shown). P sample.name) (shown_of_family family)
family_names P family is names =
    each_flat_map (λ (sample : Shown). P sample.name) (shown_of_child family.desc) family.children
    (each_weaker (λ (child : Child). IsNumberOf family.desc.kind child.number)
    (λ child. Each (λ (sample : Shown). P sample.name) (shown_of_child family.desc child))
    (λ child number. number_names P family.desc (zip family.desc.labels child.values) child.number number names) family.children
    (recursion_from_All (λ (child : Child). IsNumberOf family.desc.kind child.number) family.children is.numbers))

-- a sample has a child's own labels, and of a bucket its bound after them
abbrev pub IsOwned : (own : List (List ℕ × List ℕ)) → Shown → Type 0
IsOwned own sample = (sample.labels ≡ own) ⊎ ((bound : List ℕ) × (sample.labels ≡ own ++ ((codes "le", bound) ∷ [])))

-- the samples of a number have their child's labels
pub number_owned : (desc : Descriptor) (own : List (List ℕ × List ℕ)) (number : Number)
    → Each (IsOwned own) (shown_of_number desc own number)
number_owned desc own (Counter total) = (inl refl, tt)
number_owned desc own (Histogram totals) =
    each_append (IsOwned own) (shown_bounds desc own totals.buckets) (shown_last desc own totals)
    (each_bound (IsOwned own) desc own totals.buckets (λ k _. inr (shifted desc.digits (slice_index desc.bounds k), refl)))
    (inr (codes "+Inf", refl), (inl refl, (inl refl, tt)))
number_owned desc own (Gauge totals) = (inl refl, tt)

-- the same of a family of this kind: of a histogram none of a child's own labels is `le`, and of no other a sample has more
abbrev pub OwnedAs : Kind → (own : List (List ℕ × List ℕ)) → Shown → Type 0
OwnedAs CounterKind own sample = sample.labels ≡ own
OwnedAs HistogramKind own sample = IsOwned own sample × HasNoLe own
OwnedAs GaugeKind own sample = sample.labels ≡ own

pub number_owned_as : (desc : Descriptor) (own : List (List ℕ × List ℕ)) (number : Number) → IsNumberOf desc.kind number
    → (desc.kind ≡ HistogramKind → HasNoLe own) → Each (OwnedAs desc.kind own) (shown_of_number desc own number)
number_owned_as desc own (Counter total) is none =
    subst (λ kind. Each (OwnedAs kind own) (shown_of_number desc own (Counter total))) (sym is) (refl, tt)
number_owned_as desc own (Histogram totals) is none =
    subst (λ kind. Each (OwnedAs kind own) (shown_of_number desc own (Histogram totals))) (sym is.0)
    (each_weaker (IsOwned own) (λ sample. IsOwned own sample × HasNoLe own) (λ sample owned. (owned, none is.0))
    (shown_of_number desc own (Histogram totals)) (number_owned desc own (Histogram totals)))
number_owned_as desc own (Gauge totals) is none =
    subst (λ kind. Each (OwnedAs kind own) (shown_of_number desc own (Gauge totals))) (sym is) (refl, tt)

pub owned_so : (kind : Kind) (own : List (List ℕ × List ℕ)) (sample : Shown) → OwnedAs kind own sample → IsOwned own sample
owned_so CounterKind own sample owned = inl owned
owned_so HistogramKind own sample owned = owned.0
owned_so GaugeKind own sample owned = inl owned

-- what is said of labels is said of equal ones
pub both_same : (a b x y : List (List ℕ × List ℕ)) → x ≡ a → y ≡ b → AreSameLabels x y → AreSameLabels a b
both_same a b x y p q same = subst (λ l. AreSameLabels l b) p (subst (AreSameLabels x) q same)

-- the same labels of two samples are of one child
pub owned_same : (kind : Kind) (a b : List (List ℕ × List ℕ)) (s t : Shown) → OwnedAs kind a s → OwnedAs kind b t
    → AreSameLabels s.labels t.labels → AreSameLabels a b
owned_same CounterKind a b s t p q same = both_same a b s.labels t.labels p q same
owned_same GaugeKind a b s t p q same = both_same a b s.labels t.labels p q same
owned_same HistogramKind a b s t (inl p, left) (inl q, right) same = both_same a b s.labels t.labels p q same
owned_same HistogramKind a b s t (inl p, left) (inr q, right) same =
    absurd (one_le a b q.0 left (both_same a (b ++ ((codes "le", q.0) ∷ [])) s.labels t.labels p q.1 same))
owned_same HistogramKind a b s t (inr p, left) (inl q, right) same =
    absurd (one_le b a p.0 right
    (turned (a ++ ((codes "le", p.0) ∷ [])) b (both_same (a ++ ((codes "le", p.0) ∷ [])) b s.labels t.labels p.1 q same)))
owned_same HistogramKind a b s t (inr p, left) (inr q, right) same =
    before_le a b p.0 q.0 left right
    (both_same (a ++ ((codes "le", p.0) ∷ [])) (b ++ ((codes "le", q.0) ∷ [])) s.labels t.labels p.1 q.1 same)
