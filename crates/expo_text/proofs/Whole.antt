-- What a histogram's group keeps: buckets that rise, and for each child a bucket of all values that equals its count.
use Rattle.std.proofs.Common.{◌≡◌, ℕ, zero, suc, ◌+◌, ◌-◌, ◌*◌, ◌<◌, ◌≤◌, ◌^◌, false, List, [], ◌∷◌, ◌++◌, length, take}
use Rattle.std.proofs.Common.{get_or, inl, inr, map}
use Rattle.std.proofs.Common.{refl, sym, ap, subst, ◌∙◌, arith, append-nil}
use Rattle.std.specs.Prelude.{ℤ, ◌*ℤ◌, ◌≤ℤ◌, Option, Some, None, slice_index, pos, All, Contains, not, sum, zip, flat_map, codes}
use Rattle.std.proofs.lemmas.Bool.{lt-ltb, cond_both, cond-true, not_from_false, false_from_ne_true}
use Rattle.std.proofs.lemmas.Int.{ints}
use Rattle.std.proofs.lemmas.List.{take-take}
use Rattle.std.proofs.lemmas.List.Elements.{All-from_recursion, recursion_from_All, All-contains_itself, Contains-append_left}
use Rattle.std.proofs.lemmas.List.Elements.{Contains-append_right, Contains-push, filter-append}
use Rattle.std.proofs.lemmas.List.Sums.{sum_by-take-le}
use Rattle.std.specs.Cmp.Lexicographic.{same_text}
use Rattle.bucket_math.specs.Bounds.{AreBounds}
use Rattle.bucket_math.specs.Buckets.{cumulated}
use Rattle.ledger_core.specs.declared.totals.HistTotals.{HistTotals}
use Rattle.metric_desc.specs.Desc.{Descriptor, IsDescOf}
use Rattle.metric_desc.specs.Histogram.{le}
use Rattle.metric_desc.specs.declared.kind.Kind.TheVariants.{Histogram as HistogramKind}
use Rattle.expo_text.specs.declared.number.Number.{Number}
use Rattle.expo_text.specs.declared.number.Number.TheVariants.{Counter, Histogram, Gauge}
use Rattle.expo_text.specs.Scraped.{Child, Family, Scraped}
use Rattle.expo_text.specs.Shown.{Shown, shown_bucket, shown_bounds, shown_last, shown_of_number, shown_of_child}
use Rattle.expo_text.specs.Shown.{shown_of_family}
use Rattle.expo_text.specs.Order.{IsNumberOf, IsFamily, IsScrape}
use Rattle.expo_text.specs.Spelled.{IsSpelledIfPrinted}
use Rattle.expo_text.specs.Groups.{Group}
use Rattle.expo_text.specs.Lines.{is_same_text}
use Rattle.expo_text.specs.Reads.{others, IsLower, IsWhole}
use Rattle.expo_text.specs.Shifted.{WritesTo, shifted}
use Rattle.expo_text.specs.ReadsTo.{worth, IsBucketTo, IsOfHistogramTo, IsNoHigherTo, IsHistogramGroupTo}
use Rattle.expo_text.proofs.Filled.{ten-pos}
use Rattle.expo_text.proofs.ShiftedNumbers.{shifted_writes, writes_more, writes_one, no_inf, shifted_no_inf}
use Rattle.expo_text.proofs.ShownGroups.{ShownGroup, shown_groups, group_for, as_group}
use Rattle.std.proofs.Math.Nat.{mul-le-mul_right, mul-lt-mul_of_pos_right}
use Rattle.expo_text.proofs.Pairs.{Each, Pairs, each_weaker, each_both, each_append, each_map, each_flat_map, pairs_places}
use Rattle.expo_text.proofs.Pairs.{pairs_append, pairs_map}
use Rattle.expo_text.proofs.LabelSets.{HasNoLe, no_le_in, le_is, le_there, turned, same_list}
use Rattle.expo_text.proofs.Families.{IsPrinted, HasFew, each_group}
use Rattle.expo_text.proofs.Owned.{IsOwned, OwnedAs, owned_so, both_same, each_bound, pairs_bounds, number_owned}
use Rattle.expo_text.proofs.Apart.{bucket_no_sum, bucket_no_count, bound_small, IsFit, all_fit, own_no_le}
use Rattle.expo_text.proofs.Apart.{pairs_family}
use Rattle.expo_text.proofs.Once.{IsKnown, all_known}

-- a cumulated value is at most each later one
cumulated-le : (buckets : List ℕ) (len j k : ℕ) → j < k → k < len → cumulated buckets len j ≤ cumulated buckets len k
cumulated-le buckets len j k lt within =
    let fewer = sum_by-take-le (λ (x : ℕ). x) (take (k + 1) buckets) (j + 1) in
    rw (lt-ltb j len (omega arith), lt-ltb k len within)
    (subst (λ xs. sum xs ≤ sum (take (k + 1) buckets)) (take-take (j + 1) (k + 1) buckets (omega arith)) fewer)

-- a cumulated value is at most the sum of all buckets
pub cumulated-le_sum : (buckets : List ℕ) (len k : ℕ) → cumulated buckets len k ≤ sum buckets
cumulated-le_sum buckets len k =
    cond_both _ (sum (take (k + 1) buckets)) (sum buckets) (λ n. n ≤ sum buckets)
    (λ _. sum_by-take-le (λ (x : ℕ). x) buckets (k + 1)) (λ _. omega arith)

-- a child's own labels are none of them `le`
others-own : (labels values : List (List ℕ)) → ¬ (Contains labels le) → others (zip labels values) ≡ zip labels values
others-own [] values none = refl
others-own (label ∷ labels) [] none = refl
others-own (label ∷ labels) (value ∷ values) none =
    let differ : is_same_text label le ≡ false = false_from_ne_true (is_same_text label le)
    (λ e. none (0, (omega arith), same_text label le (sym e))) in
    cond-true (not (is_same_text label le)) ((label, value) ∷ others (zip labels values)) (others (zip labels values))
    (not_from_false (is_same_text label le) differ)
    ∙ ap (λ rest. (label, value) ∷ rest)
    (others-own labels values (λ found. none (suc found.0, (omega (arith, found.1)), found.2)))

-- a sample's labels without `le` are its child's own
others-owned : (own : List (List ℕ × List ℕ)) (sample : Shown) → others own ≡ own → IsOwned own sample
    → others sample.labels ≡ own
others-owned own sample kept (inl e) = ap others e ∙ kept
others-owned own sample kept (inr e) =
    ap others e.1
    ∙ filter-append (λ (label : List ℕ × List ℕ). not (is_same_text label.0 (codes "le"))) own ((codes "le", e.0) ∷ [])
    ∙ ap (λ xs. xs ++ []) kept
    ∙ append-nil own

-- what a family's number is worth in parts
abbrev pub parts : (places : ℕ) → Descriptor → ℕ → ℕ
parts places desc n = n * 10 ^ (places - desc.digits)

-- a bucket's bound is the number that stands in its label `le`
bound_is : (places : ℕ) (desc : Descriptor) (own : List (List ℕ × List ℕ)) (n value : ℕ) → desc.digits ≤ places → HasNoLe own
    → n < 2 ^ 64 → (x : Option ℕ)
    → IsBucketTo places desc.name x (worth places (shown_bucket desc own (shifted desc.digits n) value))
    → x ≡ Some (parts places desc n)
bound_is places desc own n value within none few (Some m) is =
    let token : shifted desc.digits n ≡ is.token = le_is own (shifted desc.digits n) is.token none is.le in
    let written : WritesTo places is.token (parts places desc n) = subst (λ t. WritesTo places t (parts places desc n)) token
    (writes_more desc.digits places (shifted desc.digits n) n within (shifted_writes desc.digits n few)) in
    ap Some (writes_one places is.token m (parts places desc n) is.writes written)
bound_is places desc own n value within none few None is =
    let token : shifted desc.digits n ≡ is.token = le_is own (shifted desc.digits n) is.token none is.le in
    absurd (shifted_no_inf desc.digits n few (token ∙ is.writes))

-- the bucket of all values has no bound
no_bound : (places : ℕ) (desc : Descriptor) (own : List (List ℕ × List ℕ)) (value : ℕ) → HasNoLe own
    → (x : Option ℕ) → IsBucketTo places desc.name x (worth places (shown_bucket desc own (codes "+Inf") value)) → x ≡ None
no_bound places desc own value none None is = refl
no_bound places desc own value none (Some m) is =
    let token : codes "+Inf" ≡ is.token = le_is own (codes "+Inf") is.token none is.le in
    absurd (no_inf places m (subst (λ t. WritesTo places t m) (sym token) is.writes))

-- a value that is not higher is not, in parts
higher : (a b k : ℕ) → a ≤ b → (pos a *ℤ pos k) ≤ℤ (pos b *ℤ pos k)
higher a b k le = let more = mul-le-mul_right k le in omega (arith, ints, more)

lower_than : (x y a b : Option ℕ) → x ≡ a → y ≡ b → IsLower x y → IsLower a b
lower_than x y a b e f lower = subst (λ z. IsLower z b) e (subst (IsLower x) f lower)

-- where both are buckets of one child, one whose bound is not above the other's has no higher value
abbrev pub Rises : (places : ℕ) → (name : List ℕ) → Shown → Shown → Type 0
Rises places name a b =
    IsNoHigherTo places name (worth places a) (worth places b) × IsNoHigherTo places name (worth places b) (worth places a)

-- a sum or a count is no bucket
no_sum : (places : ℕ) (desc : Descriptor) (own : List (List ℕ × List ℕ)) (value : ℤ) (x : Option ℕ)
    → ¬ (IsBucketTo places desc.name x (record { name = desc.name ++ codes "_sum"; labels = own; value = value }))
no_sum places desc own value x is = bucket_no_sum desc.name (sym is.named)

no_count : (places : ℕ) (desc : Descriptor) (own : List (List ℕ × List ℕ)) (value : ℤ) (x : Option ℕ)
    → ¬ (IsBucketTo places desc.name x (record { name = desc.name ++ codes "_count"; labels = own; value = value }))
no_count places desc own value x is = bucket_no_count desc.name (sym is.named)

module _ (places : ℕ) (desc : Descriptor) (own : List (List ℕ × List ℕ)) (totals : HistTotals) (few : desc.digits ≤ places)
    (are : AreBounds desc.bounds) (none : HasNoLe own) where
  abbrev bound : ℕ → ℕ
  bound k = slice_index desc.bounds k

  abbrev value : ℕ → ℕ
  value k = cumulated totals.buckets (length desc.bounds) k

  -- the bound of a bucket, in parts
  bound_at : (k : ℕ) → k < length desc.bounds → (x : Option ℕ)
      → IsBucketTo places desc.name x (worth places (shown_bucket desc own (shifted desc.digits (slice_index desc.bounds k))
      (cumulated totals.buckets (length desc.bounds) k))) → x ≡ Some (parts places desc (slice_index desc.bounds k))
  bound_at k within x is = bound_is places desc own (bound k) (value k) few none (bound_small desc own are none k within) x is

  -- a sum and a count rise beside any sample
  sum_rises : (s : Shown) → Rises places desc.name s
      (record { name = desc.name ++ codes "_sum"; labels = own; value = pos totals.sum; digits = desc.digits })
  sum_rises s = (
    λ x y _ is_y _ _. absurd (no_sum places desc own _ y is_y),
    λ x y is_x _ _ _. absurd (no_sum places desc own _ x is_x),
  )

  count_rises : (s : Shown) → Rises places desc.name s
      (record { name = desc.name ++ codes "_count"; labels = own; value = pos totals.count; digits = 0 })
  count_rises s = (
    λ x y _ is_y _ _. absurd (no_count places desc own _ y is_y),
    λ x y is_x _ _ _. absurd (no_count places desc own _ x is_x),
  )

  -- two buckets of one histogram
  two_rise : (j k : ℕ) → j < k → k < length desc.bounds
      → Rises places desc.name (shown_bucket desc own (shifted desc.digits (slice_index desc.bounds j))
      (cumulated totals.buckets (length desc.bounds) j))
      (shown_bucket desc own (shifted desc.digits (slice_index desc.bounds k)) (cumulated totals.buckets (length desc.bounds) k))
  two_rise j k lt within =
      let le = cumulated-le totals.buckets (length desc.bounds) j k lt within in
      let rises = are.rising j k 0 lt within in
      let lower : parts places desc (bound j) < parts places desc (bound k) =
      mul-lt-mul_of_pos_right rises (ten-pos (places - desc.digits)) in (
        λ x y _ _ _ _. higher (value j) (value k) (10 ^ (places - 0)) le,
        λ x y is_x is_y _ no_lower. absurd (
            no_lower (lower_than (Some (parts places desc (bound j))) (Some (parts places desc (bound k))) y x
            (sym (bound_at j (omega (arith, lt, within)) y is_y)) (sym (bound_at k within x is_x)) lower)),
      )

  -- a bucket and the last three samples
  last_rise : (k : ℕ) → k < length desc.bounds
      → Each (Rises places desc.name (shown_bucket desc own (shifted desc.digits (slice_index desc.bounds k))
      (cumulated totals.buckets (length desc.bounds) k))) (shown_last desc own totals)
  last_rise k within = (
    (
      λ x y _ _ _ _. higher (value k) (sum totals.buckets) (10 ^ (places - 0))
          (cumulated-le_sum totals.buckets (length desc.bounds) k),
      λ x y is_x is_y _ no_lower. absurd (
          no_lower (lower_than (Some (parts places desc (bound k))) None y x (sym (bound_at k within y is_y))
          (sym (no_bound places desc own (sum totals.buckets) none x is_x)) tt)),
    ),
    (
      sum_rises (shown_bucket desc own (shifted desc.digits (bound k)) (value k)),
      (count_rises (shown_bucket desc own (shifted desc.digits (bound k)) (value k)), tt),
    ),
  )

  -- the samples of a histogram rise
  histogram_rises : Pairs (Rises places desc.name) (shown_bounds desc own totals.buckets ++ shown_last desc own totals)
  histogram_rises =
      pairs_append (Rises places desc.name) (shown_bounds desc own totals.buckets) (shown_last desc own totals)
      (pairs_bounds (Rises places desc.name) desc own totals.buckets two_rise) (
        (
          sum_rises (shown_bucket desc own (codes "+Inf") (sum totals.buckets)),
          (count_rises (shown_bucket desc own (codes "+Inf") (sum totals.buckets)), tt),
        ),
        (
          (
            count_rises
                (record { name = desc.name ++ codes "_sum"; labels = own; value = pos totals.sum; digits = desc.digits }),
            tt,
          ),
          (tt, tt),
        ),
      )
      (each_bound (λ s. Each (Rises places desc.name s) (shown_last desc own totals)) desc own totals.buckets last_rise)

  -- each of them is a bucket of some bound, or has none
  histogram_formed : Each (λ s. IsOfHistogramTo places desc.name (worth places s))
      (shown_bounds desc own totals.buckets ++ shown_last desc own totals)
  histogram_formed =
      each_append (λ s. IsOfHistogramTo places desc.name (worth places s)) (shown_bounds desc own totals.buckets)
      (shown_last desc own totals)
      (each_bound (λ s. IsOfHistogramTo places desc.name (worth places s)) desc own totals.buckets (λ k within. inl (
        Some (parts places desc (bound k)),
        record {
          named = refl;
          token = shifted desc.digits (bound k);
          le = le_there own (shifted desc.digits (bound k));
          writes = writes_more desc.digits places (shifted desc.digits (bound k)) (bound k) few
              (shifted_writes desc.digits (bound k) (bound_small desc own are none k within));
        },
      ))) (
        inl (None, record { named = refl; token = codes "+Inf"; le = le_there own (codes "+Inf"); writes = refl }),
        (inr (inl refl, no_le_in own none), (inr (inr refl, no_le_in own none), tt)),
      )

-- the buckets of a number rise
number_rises : (places : ℕ) (desc : Descriptor) (own : List (List ℕ × List ℕ)) (number : Number) → desc.digits ≤ places
    → IsNumberOf desc.kind number
    → (desc.kind ≡ HistogramKind → AreBounds desc.bounds) → (desc.kind ≡ HistogramKind → HasNoLe own)
    → Pairs (Rises places desc.name) (shown_of_number desc own number)
number_rises places desc own (Counter total) few is are none = (tt, tt)
number_rises places desc own (Histogram totals) few is are none =
    histogram_rises places desc own totals few (are is.0) (none is.0)
number_rises places desc own (Gauge totals) few is are none = (tt, tt)

-- the labels of a child's samples without `le` are its own
others_of : (desc : Descriptor) (kept : IsDescOf desc.kind desc.labels desc.bounds) → desc.kind ≡ HistogramKind
    → (child : Child) (sample : Shown)
    → OwnedAs desc.kind (zip desc.labels child.values) sample → others sample.labels ≡ zip desc.labels child.values
others_of desc kept kind child sample owned =
    others-owned (zip desc.labels child.values) sample (others-own desc.labels child.values (kept.histogram kind).no_le)
    (owned_so desc.kind (zip desc.labels child.values) sample owned)

-- the buckets of each child of a family rise
family_rises : (places : ℕ) (family : Family) → family.desc.digits ≤ places → IsFamily family
    → family.desc.kind ≡ HistogramKind → IsDescOf family.desc.kind family.desc.labels family.desc.bounds
    → Pairs (Rises places family.desc.name) (shown_of_family family)
family_rises places family few is kind kept =
    pairs_family (Rises places family.desc.name) family is kept
    (λ child number. number_rises places family.desc (zip family.desc.labels child.values) child.number few number
    (λ e. (kept.histogram e).bounds_ok) (own_no_le family.desc kept child))
    (λ a b differ s t left right.
    let own_s = others_of family.desc kept kind a s left in let own_t = others_of family.desc kept kind b t right in (
      λ x y _ _ child _. absurd
          (differ (both_same (zip family.desc.labels a.values) (zip family.desc.labels b.values) (others s.labels)
          (others t.labels) own_s own_t child)),
      λ x y _ _ child _. absurd
          (differ (both_same (zip family.desc.labels a.values) (zip family.desc.labels b.values) (others s.labels)
          (others t.labels) own_s own_t (turned (others t.labels) (others s.labels) child))),
    ))

-- each sample of a histogram's family is a bucket of some bound, or has none
number_formed : (places : ℕ) (desc : Descriptor) (own : List (List ℕ × List ℕ)) (number : Number) → desc.digits ≤ places
    → desc.kind ≡ HistogramKind → IsNumberOf desc.kind number
    → AreBounds desc.bounds → HasNoLe own
    → Each (λ s. IsOfHistogramTo places desc.name (worth places s)) (shown_of_number desc own number)
number_formed places desc own (Counter total) few kind is are none = cc
number_formed places desc own (Gauge totals) few kind is are none = cc
number_formed places desc own (Histogram totals) few kind is are none = histogram_formed places desc own totals few are none

family_formed : (places : ℕ) (family : Family) → family.desc.digits ≤ places → IsFamily family
    → family.desc.kind ≡ HistogramKind → IsDescOf family.desc.kind family.desc.labels family.desc.bounds
    → Each (λ s. IsOfHistogramTo places family.desc.name (worth places s)) (shown_of_family family)
family_formed places family few is kind kept =
    each_flat_map (λ s. IsOfHistogramTo places family.desc.name (worth places s)) (shown_of_child family.desc) family.children
    (each_weaker (IsFit family.desc)
    (λ child. Each (λ s. IsOfHistogramTo places family.desc.name (worth places s)) (shown_of_child family.desc child))
    (λ child fit. number_formed places family.desc (zip family.desc.labels child.values) child.number few kind fit.number
    (kept.histogram kind).bounds_ok (own_no_le family.desc kept child kind))
    family.children (all_fit family is))

-- what one of the pieces contains
contains_piece : {X Y : Type 0} (f : X → List Y) (xs : List X) (x : X) (y : Y) (k : ℕ) → k < length xs → get_or xs k x ≡ x
    → Contains (f x) y → Contains (flat_map f xs) y
contains_piece f [] x y k within is there = absurd (omega arith)
contains_piece f (first ∷ xs) x y zero within is there =
    Contains-append_left (f first) (flat_map f xs) y (subst (λ z. Contains (f z) y) (sym is) there)
contains_piece f (first ∷ xs) x y (suc k) within is there =
    Contains-append_right (f first) (flat_map f xs) y (contains_piece f xs x y k (omega arith) is there)

-- what a function makes of what a list contains
contains_map : {X Y : Type 0} (f : X → Y) (xs : List X) (x : X) (k : ℕ) → k < length xs → get_or xs k x ≡ x
    → Contains (map f xs) (f x)
contains_map f [] x k within is = absurd (omega arith)
contains_map f (first ∷ xs) x zero within is = (0, (omega arith), ap f is)
contains_map f (first ∷ xs) x (suc k) within is =
    let rest = contains_map f xs x k (omega (arith, within)) is in
    (suc rest.0, (let inside = rest.1 in omega (arith, inside)), rest.2)

-- a number of a histogram's family gives each of its samples a bucket of all values and a count
number_whole : (places : ℕ) (group : Group) (desc : Descriptor) (own : List (List ℕ × List ℕ)) (number : Number)
    → group.name ≡ desc.name → desc.kind ≡ HistogramKind
    → IsNumberOf desc.kind number → others own ≡ own → ((sample : Shown) → Contains (shown_of_number desc own number) sample
    → Contains group.samples (worth places sample))
    → (sample : Shown) → IsOwned own sample → IsWhole group (worth places sample)
number_whole places group desc own (Counter total) name kind is kept there sample owned = cc
number_whole places group desc own (Gauge totals) name kind is kept there sample owned = cc
number_whole places group desc own (Histogram totals) name kind is kept there sample owned =
    let all : Shown = shown_bucket desc own (codes "+Inf") (sum totals.buckets) in
    let count : Shown = record { name = desc.name ++ codes "_count"; labels = own; value = pos totals.count; digits = 0 } in
    record {
      all = worth places all;
      all_there = there all (Contains-append_right (shown_bounds desc own totals.buckets) (shown_last desc own totals) all (
        0,
        (omega arith),
        refl,
      ));
      all_name = ap (λ text. text ++ codes "_bucket") (sym name);
      all_bound = Contains-push own (codes "le", codes "+Inf");
      all_child = same_list (others all.labels) (others sample.labels) (others-owned own all kept (inr (codes "+Inf", refl))
          ∙ sym (others-owned own sample kept owned));
      count = worth places count;
      count_there = there count (Contains-append_right (shown_bounds desc own totals.buckets) (shown_last desc own totals)
          count (2, (omega arith), refl));
      count_name = ap (λ text. text ++ codes "_count") (sym name);
      count_child = same_list (others count.labels) (others sample.labels) (others-owned own count kept (inl refl)
          ∙ sym (others-owned own sample kept owned));
      equal = ap (λ n. pos n *ℤ pos (10 ^ (places - 0))) (sym is.1);
    }

-- each sample of a histogram's family has its child's bucket of all values and count
family_whole : (places : ℕ) (family : Family) → IsFamily family → family.desc.kind ≡ HistogramKind
    → ¬ (Contains family.desc.labels le)
    → Each (λ s. IsWhole (as_group places (group_for family)) (worth places s)) (shown_of_family family)
family_whole places family is kind none =
    each_flat_map (λ s. IsWhole (as_group places (group_for family)) (worth places s)) (shown_of_child family.desc)
    family.children
    (each_weaker (λ (child : Child). Contains family.children child × IsNumberOf family.desc.kind child.number)
    (λ child. Each (λ s. IsWhole (as_group places (group_for family)) (worth places s)) (shown_of_child family.desc child))
    (λ child known.
    let own : List (List ℕ × List ℕ) = zip family.desc.labels child.values in
    each_weaker (IsOwned own) (λ s. IsWhole (as_group places (group_for family)) (worth places s))
    (number_whole places (as_group places (group_for family)) family.desc own child.number refl kind known.1
    (others-own family.desc.labels child.values none)
    (λ sample found.
    let there = contains_piece (shown_of_child family.desc) family.children child sample known.0.0 known.0.1 known.0.2 found in
    contains_map (worth places) (shown_of_family family) sample there.0 there.1 there.2))
    (shown_of_child family.desc child) (number_owned family.desc own child.number))
    family.children
    (each_both (Contains family.children) (λ (child : Child). IsNumberOf family.desc.kind child.number) family.children
    (recursion_from_All (Contains family.children) family.children (All-contains_itself family.children))
    (recursion_from_All (λ (child : Child). IsNumberOf family.desc.kind child.number) family.children is.numbers)))

-- the group of a histogram rises to its count
family_histogram : (places : ℕ) (family : Family) → family.desc.digits ≤ places → IsFamily family
    → IsDescOf family.desc.kind family.desc.labels family.desc.bounds → family.desc.kind ≡ HistogramKind
    → IsHistogramGroupTo places (as_group places (group_for family))
family_histogram places family few is kept kind = record {
  formed = All-from_recursion (IsOfHistogramTo places family.desc.name) (map (worth places) (shown_of_family family))
      (each_map (IsOfHistogramTo places family.desc.name) (worth places) (shown_of_family family)
      (family_formed places family few is kind kept));
  rising = pairs_places (λ a b. IsNoHigherTo places family.desc.name a b × IsNoHigherTo places family.desc.name b a)
      (map (worth places) (shown_of_family family))
      (pairs_map (λ a b. IsNoHigherTo places family.desc.name a b × IsNoHigherTo places family.desc.name b a) (worth places)
      (shown_of_family family) (family_rises places family few is kind kept));
  whole = All-from_recursion (IsWhole (as_group places (group_for family))) (map (worth places) (shown_of_family family))
      (each_map (IsWhole (as_group places (group_for family))) (worth places) (shown_of_family family)
      (family_whole places family is kind (kept.histogram kind).no_le));
}

-- the groups of histograms rise to their counts
pub histograms : (places : ℕ) (scrape : Scraped) → IsScrape scrape → All IsSpelledIfPrinted scrape.families
    → Each (HasFew places) scrape.families
    → All (λ (group : Group). group.kind ≡ HistogramKind → IsHistogramGroupTo places group)
    (map (as_group places) (shown_groups scrape))
histograms places scrape is spelled few =
    All-from_recursion (λ (group : Group). group.kind ≡ HistogramKind → IsHistogramGroupTo places group)
    (map (as_group places) (shown_groups scrape))
    (each_map (λ (group : Group). group.kind ≡ HistogramKind → IsHistogramGroupTo places group) (as_group places)
    (shown_groups scrape)
    (each_group (λ (group : ShownGroup). group.kind ≡ HistogramKind → IsHistogramGroupTo places (as_group places group))
    scrape.families
    (each_weaker (λ family. IsKnown family × HasFew places family) (λ family. IsPrinted family
    → family.desc.kind ≡ HistogramKind → IsHistogramGroupTo places (as_group places (group_for family)))
    (λ family known printed kind.
    family_histogram places family (known.1 printed) known.0.kept (known.0.spelled printed).desc.kept kind)
    scrape.families (each_both IsKnown (HasFew places) scrape.families (all_known scrape is spelled) few))))
