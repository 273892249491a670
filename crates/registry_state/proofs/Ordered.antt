-- The order of the families by their names, as families and children come.
use Rattle.std.proofs.Common.{◌≡◌, ◌≢◌, ℕ, zero, suc, ◌<◌, List, [], ◌∷◌, ◌++◌, length, map, get_or, All, Contains, refl, ap, sym}
use Rattle.std.proofs.Common.{subst, ◌∙◌, true, false, arith, add-one, zero-add, inl, inr}
use Rattle.std.specs.List.{insert, range_with_len}
use Rattle.std.specs.List.Sorted.{IsPermutation}
use Rattle.std.proofs.lemmas.List.{append-nil, get_or_append_left, get_or_push, length_push}
use Rattle.std.proofs.lemmas.List.Sorted.{All-permutation, IsPermutation-trans, IsPermutation-cons, IsPermutation-to_front}
use Rattle.std.proofs.lemmas.List.Sorted.{IsPermutation-insert}
use Rattle.std.specs.List.{AllWithin, HoldsAt}
use Rattle.std.specs.Ordering.{nat_cmp, is_lt, ordering_reverse}
use Rattle.std.specs.declared.cmp.Ordering.{Ordering}
use Rattle.std.specs.declared.cmp.Ordering.TheVariants.{Less, Equal, Greater}
use Rattle.std.specs.Cmp.Lexicographic.{slice_cmp}
use Rattle.std.proofs.lemmas.Cmp.{nat_list_cmp_total}
use Rattle.std.proofs.lemmas.List.{get_or_default}
use Rattle.std.proofs.lemmas.Map.Lookups.{exact_bytes}
use Rattle.metric_desc.specs.Desc.{Descriptor, names_of, suffixes_of}
use Rattle.metric_desc.specs.declared.kind.Kind.{Kind}
use Rattle.metric_desc.specs.declared.kind.Kind.TheVariants.{Counter, Histogram, Gauge}
use Rattle.expo_text.specs.Order.{IsBefore}
use Rattle.registry_state.specs.Replay.{Child, Family, IsApart, with_child}
use Rattle.registry_state.specs.Held.{no_family, family_at, IsNamedBefore, IsOrder, IsPlaceOfName}
use Rattle.registry_state.proofs.Lists.{cases_order, pairs_insert, pairs_weaker, range_below, range_push}

suffixed : (name : List ℕ) (kind : Kind) → Contains (map (λ suffix. name ++ suffix) (suffixes_of kind)) name
suffixed name Counter = (0, omega arith, append-nil name)
suffixed name Histogram = (0, omega arith, append-nil name)
suffixed name Gauge = (0, omega arith, append-nil name)

pub own_name : (desc : Descriptor) → Contains (names_of desc) desc.name
own_name desc = suffixed desc.name desc.kind

-- families of one name clash
pub names_differ : (families : List Family) (desc : Descriptor) → IsApart families desc
    → All (λ (family : Family). family.desc.name ≢ desc.name) families
names_differ families desc apart k d within same =
    apart k d within (
      desc.name,
      subst (Contains (names_of (get_or families k d).desc)) same (own_name (get_or families k d).desc),
      own_name desc,
    )

pub length-with_child : (families : List Family) (number : ℕ) (child : Child)
    → length (with_child families number child) ≡ length families
length-with_child [] number child = refl
length-with_child (family ∷ families) zero child = refl
length-with_child (family ∷ families) (suc number) child = ap suc (length-with_child families number child)

-- a new child changes no descriptor
pub desc_at : (families : List Family) (number : ℕ) (child : Child) (k : ℕ) (d : Family)
    → (get_or (with_child families number child) k d).desc ≡ (get_or families k d).desc
desc_at [] number child k d = refl
desc_at (family ∷ families) zero child zero d = refl
desc_at (family ∷ families) zero child (suc k) d = refl
desc_at (family ∷ families) (suc number) child zero d = refl
desc_at (family ∷ families) (suc number) child (suc k) d = desc_at families number child k d

-- the numbers of an order are numbers of families
pub order_below : (families : List Family) (order : List ℕ) → IsOrder families order → All (λ i. i < length families) order
order_below families order is = All-permutation (λ i. i < length families) (range_with_len 0 (length families)) order is.each
    (range_below (length families))

-- one family more, where its name stands among the names
pub order_more : (families : List Family) (order : List ℕ) (family : Family) (place : ℕ) → IsOrder families order
    → IsPlaceOfName families order family.desc.name place
    → IsOrder (families ++ family ∷ []) (insert order place (length families))
order_more families order family place is at =
    let le = at.within in
    let n : ℕ = length families in
    let after : List Family = families ++ family ∷ [] in
    let below : All (λ i. i < n) order = order_below families order is in
    let old : (i : ℕ) → i < n → family_at after i ≡ family_at families i = λ i lt. get_or_append_left families
    (family ∷ []) no_family i lt in
    let new : family_at after n ≡ family = get_or_push families family no_family n refl in
    let R : ℕ → ℕ → Type 0 = λ i j. IsNamedBefore (family_at after i) (family_at after j) in
    let counted : range_with_len 0 (length after) ≡ range_with_len 0 n ++ n ∷ [] =
    ap (range_with_len 0) (length_push families family) ∙ ap (range_with_len 0) (add-one n) ∙ range_push 0 n
    ∙ ap (λ m. range_with_len 0 n ++ m ∷ []) (zero-add n) in
    record {
      each = subst (λ all. IsPermutation all (insert order place n)) (sym counted)
          (IsPermutation-trans _ _ _ (IsPermutation-to_front (range_with_len 0 n) n)
          (IsPermutation-trans _ _ _ (IsPermutation-cons n _ _ is.each) (IsPermutation-insert order place n)));
      rising = pairs_insert R order place n le
          (pairs_weaker (λ i. i < n) (λ i j. IsNamedBefore (family_at families i) (family_at families j)) R order
          (λ i j i_lt j_lt before. subst (λ f. IsNamedBefore f (family_at after j)) (sym (old i i_lt))
          (subst (IsNamedBefore (family_at families i)) (sym (old j j_lt)) before))
          below is.rising)
          (λ k d lo hi. let lt : get_or order k d < n = below k d (omega (arith, hi, le)) in
          subst (λ f. IsNamedBefore f (family_at after n)) (sym (old (get_or order k d) lt))
          (subst (IsNamedBefore (family_at families (get_or order k d))) (sym new) (at.front k d lo hi)))
          (λ k d lo hi. let lt : get_or order k d < n = below k d hi in
          subst (λ f. IsNamedBefore f (family_at after (get_or order k d))) (sym new)
          (subst (IsNamedBefore family) (sym (old (get_or order k d) lt)) (at.back k d lo hi)));
    }

-- one child more
pub order_made : (families : List Family) (order : List ℕ) (number : ℕ) (child : Child) → IsOrder families order
    → IsOrder (with_child families number child) order
order_made families order number child is =
    record {
      each = subst (λ n. IsPermutation (range_with_len 0 n) order) (sym (length-with_child families number child)) is.each;
      rising = λ i j d lt within.
          let a : ℕ = get_or order i d in
          let b : ℕ = get_or order j d in
          subst (λ x. IsBefore x (family_at (with_child families number child) b).desc.name)
          (sym (ap (λ (y : Descriptor). y.name) (desc_at families number child a no_family)))
          (subst (IsBefore (family_at families a).desc.name)
          (sym (ap (λ (y : Descriptor). y.name) (desc_at families number child b no_family)))
          (is.rising i j d lt within));
    }

turned : (o : Ordering) → is_lt o ≡ false → o ≢ Equal → ordering_reverse o ≡ Less
turned Less e other = absurd (cc)
turned Equal e other = absurd (other refl)
turned Greater e other = refl

-- of two names the one that is not before the other is behind it
name_behind : (a b : List ℕ) → a ≢ b → is_lt (slice_cmp nat_cmp a b) ≡ false → IsBefore b a
name_behind a b other not = nat_list_cmp_total.antisymm b a ∙ turned (slice_cmp nat_cmp a b) not (λ e. other (exact_bytes a b e))

-- behind the first name that is not before this one, all are behind it
pub names_behind : (families : List Family) (order : List ℕ) (name : List ℕ) (place : ℕ) → IsOrder families order
    → All (λ (family : Family). family.desc.name ≢ name) families → place < length order
    → is_lt (slice_cmp nat_cmp (family_at families (get_or order place 0)).desc.name name) ≡ false
    → AllWithin (λ i. IsBefore name (family_at families i).desc.name) order place (length order)
names_behind families order name place is new lt not k d lo hi =
    let first : ℕ = get_or order place 0 in
    let before : IsBefore name (family_at families first).desc.name =
    name_behind (family_at families first).desc.name name (new first no_family (order_below families order is place 0 lt)) not in
    let same : get_or order place 0 ≡ get_or order place d = get_or_default order place 0 d lt in
    elim (cases_order place k) [
      | inl further ↦ nat_list_cmp_total.trans name (family_at families first).desc.name
          (family_at families (get_or order k d)).desc.name before
          (subst (λ i. IsBefore (family_at families i).desc.name (family_at families (get_or order k d)).desc.name) (sym same)
          (is.rising place k d further hi))
      | inr rest ↦ elim rest [
        | inl e ↦ subst (λ j. IsBefore name (family_at families (get_or order j d)).desc.name) e
            (subst (λ i. IsBefore name (family_at families i).desc.name) same before)
        | inr less ↦ absurd (omega (arith, less, lo))
      ]
    ]

is_less : (o : Ordering) → is_lt o ≡ true → o ≡ Less
is_less Less e = refl
is_less Equal e = absurd (cc)
is_less Greater e = absurd (cc)

-- a test found the name at this place of the order before this one
pub before_at : (families : List Family) (order : List ℕ) (name : List ℕ) (place : ℕ) → place < length order
    → is_lt (slice_cmp nat_cmp (family_at families (get_or order place 0)).desc.name name) ≡ true
    → HoldsAt (λ i. IsBefore (family_at families i).desc.name name) order place
before_at families order name place lt less d =
    let same : get_or order place 0 ≡ get_or order place d = get_or_default order place 0 d lt in
    subst (λ i. IsBefore (family_at families i).desc.name name) same
    (is_less (slice_cmp nat_cmp (family_at families (get_or order place 0)).desc.name name) less)

pub order_none : IsOrder [] []
order_none = record {
  each = record { moves = []; below = tt; is = refl };
  rising = λ i j d lt within. absurd (omega (arith, within));
}
