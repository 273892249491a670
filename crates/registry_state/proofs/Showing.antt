-- The families with their numbers, in the order of their names, are a scrape of what the registry holds.
use Rattle.std.proofs.Common.{◌≡◌, ◌≢◌, ℕ, zero, suc, ◌+◌, ◌*◌, ◌<◌, ◌≤◌, List, [], ◌∷◌, length, map, get_or, All, AllPairs, refl}
use Rattle.std.proofs.Common.{ap, sym, subst, ◌∙◌, arith, inl, inr, add-one}
use Rattle.std.specs.Prelude.{slice_index, take, drop}
use Rattle.std.specs.List.{range_with_len}
use Rattle.std.specs.List.Sorted.{IsPermutation}
use Rattle.std.specs.Ordering.{nat_cmp}
use Rattle.std.specs.declared.cmp.Ordering.TheVariants.{Less, Equal}
use Rattle.std.specs.Cmp.Lexicographic.{slice_cmp}
use Rattle.std.proofs.lemmas.Bool.Decides.{Decides-eqb}
use Rattle.std.proofs.lemmas.Cmp.{tied_itself, nat_list_cmp_total}
use Rattle.std.proofs.lemmas.List.{length-map}
use Rattle.std.proofs.lemmas.List.Elements.{All-map, All-weaker, All-contains}
use Rattle.std.proofs.lemmas.List.FromFn.{length-range_with_len}
use Rattle.std.proofs.lemmas.List.Sorted.{length_permutation, IsPermutation-map}
use Rattle.std.proofs.lemmas.Map.Made.{IsDistinct-from_AllPairs}
use Rattle.std.proofs.lemmas.Map.Steps.{length-le_from_distinct_below}
use Rattle.std.proofs.lemmas.Map.Views.{Contains-from_any, exact_unsigned_eq}
use Rattle.metric_desc.specs.Desc.{Descriptor, Clash}
use Rattle.metric_desc.specs.declared.kind.Kind.{Kind}
use Rattle.metric_desc.specs.declared.kind.Kind.TheVariants.{Counter, Histogram, Gauge}
use Rattle.ledger_core.specs.Limits.{AreSlots}
use Rattle.ledger_core.proofs.Legal.{legal_buckets}
use Rattle.register_rule.specs.declared.view.Answer.{Answer}
use Rattle.snapshot_scan.specs.Sources.{IsWhole}
use Rattle.expo_text.specs.Scraped.{Child as ChildShown, Family as FamilyShown}
use Rattle.expo_text.specs.Order.{IsBefore, IsNumberOf, IsFamily, IsScrape, IsChildBefore as IsShownBefore}
use Rattle.registry_state.specs.Replay.{Child, Family, slots}
use Rattle.registry_state.specs.Shown.{value_at, child_shown, family_shown, IsShown}
use Rattle.registry_state.specs.Held.{AreChildren, AreShowable, AreHeld, IsOrder, family_at, no_family}
use Rattle.registry_state.specs.Filled.{arranged, AreWithin}
use Rattle.registry_state.proofs.Lists.{cases_order, pairs_map, pairs_weaker}
use Rattle.registry_state.proofs.Ordered.{order_below}

few_slots : (c h g : ℕ) (kind : Kind) → AreSlots c h g → slots c h g kind ≤ 256
few_slots c h g Counter are = are.counters
few_slots c h g Histogram are = let le = are.histograms in omega (arith, le)
few_slots c h g Gauge are = let le = are.gauges in omega (arith, le)

-- numbers below a limit, no two of which are the same, are at most as many
few_distinct : (xs : List ℕ) (n : ℕ) → AllPairs (λ a b. a ≢ b) xs → All (λ x. x < n) xs → length xs ≤ n
few_distinct xs n distinct below =
    length-le_from_distinct_below xs n (IsDistinct-from_AllPairs Decides-eqb xs distinct)
    (λ q any. All-contains (λ x. x < n) xs q below (Contains-from_any exact_unsigned_eq q xs any))

few_children : (c h g : ℕ) (family : Family) → AreSlots c h g → AreChildren (slots c h g) family → length family.children ≤ 256
few_children c h g family all are =
    let slot_of : Child → ℕ = λ (child : Child). child.slot in
    let n : length (map slot_of family.children) ≡ length family.children = length-map family.children slot_of in
    let few : length (map slot_of family.children) ≤ slots c h g family.desc.kind =
    few_distinct (map slot_of family.children) (slots c h g family.desc.kind)
    (pairs_map (λ a b. a ≢ b) slot_of family.children are.distinct)
    (All-map (λ x. x < slots c h g family.desc.kind) slot_of family.children are.below) in
    let most = few_slots c h g family.desc.kind all in
    omega (arith, n, few, most)

-- the value of a slot is of its kind, and the count of a histogram is the sum of its buckets
value_is : (n c h g : ℕ) (answer : Answer) (kind : Kind) (slot : ℕ) → IsWhole n c h g answer → slot < slots c h g kind
    → IsNumberOf kind (value_at c h answer.totals kind slot)
value_is n c h g answer Counter slot whole lt = refl
value_is n c h g answer Histogram slot whole lt =
    let wide = whole.totals in (
      refl,
      legal_buckets c h slot answer.totals (slice_index answer.totals (c + 27 * slot + 26))
          (take 25 (drop (c + 27 * slot) answer.totals)) lt
          (omega (arith, wide, lt)) whole.legal refl refl,
    )
value_is n c h g answer Gauge slot whole lt = refl

pub family_is : (n c h g : ℕ) (answer : Answer) (family : Family) → AreSlots c h g → IsWhole n c h g answer
    → AreChildren (slots c h g) family → IsFamily (family_shown c h answer.totals family)
family_is n c h g answer family all whole are =
    let kind : Kind = family.desc.kind in
    let shown : Child → ChildShown = child_shown c h answer.totals kind in
    record {
      few = let same : length (map shown family.children) ≡ length family.children = length-map family.children shown in
          let few = few_children c h g family all are in omega (arith, same, few);
      fit = All-map (λ (child : ChildShown). length child.values ≡ length family.desc.labels) shown family.children are.fit;
      numbers = All-map (λ (child : ChildShown). IsNumberOf kind child.number) shown family.children
          (All-weaker (λ (child : Child). child.slot < slots c h g kind)
          (λ (child : Child). IsNumberOf kind (value_at c h answer.totals kind child.slot))
          (λ child lt. value_is n c h g answer kind child.slot whole lt) family.children are.below);
      ordered = pairs_map IsShownBefore shown family.children are.ordered;
    }

-- families of which one stands before the other by name are not the same
not_itself : (name : List ℕ) → ¬ (IsBefore name name)
not_itself name before = let tied : slice_cmp nat_cmp name name ≡ Equal = tied_itself nat_list_cmp_total name in
    absurd (less_equal (sym before ∙ tied))
  where
    less_equal : Less ≡ Equal → ⊥
    less_equal e = cc

turned : (a b : Descriptor) → ¬ (Clash a b) → ¬ (Clash b a)
turned a b not clash = not (clash.0, clash.2, clash.1)

-- any two families, in whichever order, do not clash
apart_at : (c h g : ℕ) (families : List Family) (i j : ℕ) → AreShowable c h g families → i < length families → j < length families
    → IsBefore (family_at families i).desc.name (family_at families j).desc.name
    → ¬ (Clash (family_at families i).desc (family_at families j).desc)
apart_at c h g families i j held i_lt j_lt before = elim (cases_order i j) [
  | inl lt ↦ held.apart i j no_family lt j_lt
  | inr rest ↦ elim rest [
    | inl e ↦ absurd (not_itself (family_at families i).desc.name
        (subst (λ k. IsBefore (family_at families i).desc.name (family_at families k).desc.name) (sym e) before))
    | inr gt ↦ turned (family_at families j).desc (family_at families i).desc (held.apart j i no_family gt i_lt)
  ]
]

pub length-order : (families : List Family) (order : List ℕ) → IsOrder families order → length order ≡ length families
length-order families order is = length_permutation (range_with_len 0 (length families)) order is.each
    ∙ length-range_with_len 0 (length families)

pub is_scrape : (n c h g : ℕ) (families : List Family) (order : List ℕ) (answer : Answer) → AreSlots c h g
    → AreShowable c h g families → IsOrder families order → IsWhole n c h g answer
    → IsScrape (record { vector = answer.vector; families = arranged c h answer.totals families order })
is_scrape n c h g families order answer all held is whole =
    let shown : ℕ → FamilyShown = λ number. family_shown c h answer.totals (family_at families number) in
    let below : All (λ i. i < length families) order = order_below families order is in
    record {
      few = let same : length (map shown order) ≡ length order = length-map order shown in
          let count = length-order families order is in
          let few = held.few in omega (arith, same, count, few);
      each = All-map IsFamily shown order (All-weaker (λ i. i < length families) (λ i. IsFamily (shown i))
          (λ i lt. family_is n c h g answer (family_at families i) all whole (held.each i no_family lt)) order below);
      ordered = pairs_map (λ (a b : FamilyShown). IsBefore a.desc.name b.desc.name) shown order is.rising;
      apart = pairs_map (λ (a b : FamilyShown). ¬ (Clash a.desc b.desc)) shown order
          (pairs_weaker (λ i. i < length families)
          (λ i j. IsBefore (family_at families i).desc.name (family_at families j).desc.name)
          (λ i j. ¬ (Clash (family_at families i).desc (family_at families j).desc)) order
          (λ i j i_lt j_lt before. apart_at c h g families i j held i_lt j_lt before) below is.rising);
    }

-- the elements by their numbers are the elements
shifted : {X Y : Type 0} (f : X → Y) (x : X) (xs : List X) (d : X) (a n : ℕ)
    → map (λ i. f (get_or (x ∷ xs) i d)) (range_with_len (a + 1) n) ≡ map (λ i. f (get_or xs i d)) (range_with_len a n)
shifted f x xs d a zero = refl
shifted f x xs d a (suc n) =
    let e : get_or (x ∷ xs) (a + 1) d ≡ get_or xs a d = rw add-one refl in
    ap (λ y. f y ∷ map (λ i. f (get_or (x ∷ xs) i d)) (range_with_len (a + 1 + 1) n)) e
    ∙ ap (λ rest. f (get_or xs a d) ∷ rest) (shifted f x xs d (a + 1) n)

all_by_number : {X Y : Type 0} (f : X → Y) (xs : List X) (d : X)
    → map (λ i. f (get_or xs i d)) (range_with_len 0 (length xs)) ≡ map f xs
all_by_number f [] d = refl
all_by_number f (x ∷ xs) d = ap (λ rest. f x ∷ rest) (shifted f x xs d 0 (length xs) ∙ all_by_number f xs d)

pub is_shown : (c h : ℕ) (families : List Family) (order : List ℕ) (answer : Answer) → IsOrder families order
    → IsShown c h families answer (record { vector = answer.vector; families = arranged c h answer.totals families order })
is_shown c h families order answer is =
    let shown : ℕ → FamilyShown = λ number. family_shown c h answer.totals (family_at families number) in
    record {
      vector = refl;
      families_are = subst (λ first. IsPermutation first (map shown order))
          (all_by_number (family_shown c h answer.totals) families no_family)
          (IsPermutation-map shown (range_with_len 0 (length families)) order is.each);
    }

-- the families of a registry can be shown
pub showable : (c h g : ℕ) (families : List Family) (used : Kind → ℕ) → AreHeld c h g families used → AreShowable c h g families
showable c h g families used held = record {
  few = held.are.few;
  apart = held.are.apart;
  each = All-weaker (AreChildren used) (AreChildren (slots c h g)) (λ family are. record {
    fit = are.fit;
    below = All-weaker (λ (child : Child). child.slot < used family.desc.kind)
        (λ (child : Child). child.slot < slots c h g family.desc.kind)
        (λ child lt. let le : used family.desc.kind ≤ slots c h g family.desc.kind = held.room family.desc.kind in
        omega (arith, lt, le)) family.children are.below;
    ordered = are.ordered;
    distinct = are.distinct;
  }) families held.are.each;
}

-- the slots of their children are there
pub showable_within : (c h g : ℕ) (families : List Family) → AreShowable c h g families → All (AreWithin c h g) families
showable_within c h g families held = All-weaker (AreChildren (slots c h g)) (AreWithin c h g) (λ family are. are.below) families
    held.each
