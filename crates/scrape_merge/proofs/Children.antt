-- Children in strict order.
use Rattle.std.proofs.Common.{◌≡◌, ◌≢◌, ℕ, ◌+◌, ◌-◌, ◌<◌, true, false, List, [], ◌∷◌, ◌++◌, length, map, get_or, AllPairs}
use Rattle.std.proofs.Common.{refl, sym, ap, ap₂, subst, ◌∙◌, arith, ⊎_elim, length-append}
use mathlib.Core.Bool.{true≢false}
use Rattle.std.specs.Bool.{Decides}
use Rattle.std.specs.Ordering.{nat_cmp, is_lt, is_eq, eq_by_cmp, ordering_reverse, ordering_then}
use Rattle.std.specs.declared.cmp.Ordering.{Ordering}
use Rattle.std.specs.declared.cmp.Ordering.TheVariants.{Less, Equal, Greater}
use Rattle.std.specs.Cmp.{IsTotalOrder}
use Rattle.std.specs.Cmp.Lexicographic.{slice_cmp}
use Rattle.std.specs.List.Sorted.{IsSortedBy, IsPermutation}
use Rattle.std.proofs.lemmas.Bool.{cases_lt}
use Rattle.std.proofs.lemmas.Cmp.{lists_total, nat_list_cmp_total, on_total, tied_itself, eq_by_cmp_equiv}
use Rattle.std.proofs.lemmas.List.{length-map, get_or_append_left, get_or-append_right, get_or-map}
use Rattle.std.proofs.lemmas.List.Sorted.{IsPermutation-map}
use Rattle.std.proofs.lemmas.Map.Keys.{IsDistinct-IsPermutation}
use Rattle.std.proofs.lemmas.Map.Lookups.{CmpEqualImpliesEq, exact_bytes}
use Rattle.std.proofs.lemmas.Map.Made.{AllPairs-from_IsDistinct, IsDistinct-from_AllPairs}
use Rattle.expo_text.specs.Scraped.{Child}
use Rattle.expo_text.specs.Order.{IsChildBefore}
use Rattle.expo_text.proofs.Elements.{rising_pairs}
use Rattle.scrape_merge.proofs.Zipped.{pairs_map}

abbrev pub values_cmp : List (List ℕ) → List (List ℕ) → Ordering
values_cmp a b = slice_cmp (slice_cmp nat_cmp) a b

abbrev pub stands : Child → Child → Ordering
stands a b = slice_cmp (slice_cmp nat_cmp) a.values b.values

pub values_total : IsTotalOrder values_cmp
values_total = lists_total nat_list_cmp_total

pub children_total : IsTotalOrder stands
children_total = on_total (λ (child : Child). child.values) values_total

first_equal : (o p : Ordering) → ordering_then o p ≡ Equal → (o ≡ Equal) × (p ≡ Equal)
first_equal Less p e = absurd (cc)
first_equal Equal p e = (refl, e)
first_equal Greater p e = absurd (cc)

pub exact_values : CmpEqualImpliesEq values_cmp
exact_values [] [] e = refl
exact_values [] (y ∷ ys) e = absurd (cc)
exact_values (x ∷ xs) [] e = absurd (cc)
exact_values (x ∷ xs) (y ∷ ys) e =
    let both : (slice_cmp nat_cmp x y ≡ Equal) × (slice_cmp (slice_cmp nat_cmp) xs ys ≡ Equal) = first_equal _ _ e in
    let head : x ≡ y = exact_bytes x y both.0 in
    let rest : xs ≡ ys = exact_values xs ys both.1 in
    ap (λ z. z ∷ xs) head ∙ ap (λ zs. y ∷ zs) rest

-- children in strict order, and others that stand behind their last
pub joined : (xs ys : List Child) → AllPairs IsChildBefore xs → AllPairs IsChildBefore ys
    → ((d : Child) → 0 < length xs → 0 < length ys → IsChildBefore (get_or xs (length xs - 1) d) (get_or ys 0 d))
    → AllPairs IsChildBefore (xs ++ ys)
joined xs ys first second between =
    let n = length-append xs ys in
    rising_pairs stands children_total (xs ++ ys) (length (xs ++ ys)) (omega arith) (λ k d lt. ⊎_elim
    (λ early.
    let at_k : get_or (xs ++ ys) k d ≡ get_or xs k d = get_or_append_left xs ys d k (omega (arith, early)) in
    let next : get_or (xs ++ ys) (k + 1) d ≡ get_or xs (k + 1) d = get_or_append_left xs ys d (k + 1) early in
    ap₂ stands at_k next ∙ first k (k + 1) d (omega arith) early)
    (λ late.
    let next : get_or (xs ++ ys) (k + 1) d ≡ get_or ys (k + 1 - length xs) d =
    get_or-append_right xs ys (length xs) (k + 1) d refl late in
    ⊎_elim
    (λ last.
    let at_last : k ≡ length xs - 1 = omega (arith, late, last) in
    let at_first : k + 1 - length xs ≡ 0 = omega (arith, late, last) in
    let at_k : get_or (xs ++ ys) k d ≡ get_or xs (length xs - 1) d =
    get_or_append_left xs ys d k last ∙ ap (λ i. get_or xs i d) at_last in
    ap₂ stands at_k (next ∙ ap (λ i. get_or ys i d) at_first)
    ∙ between d (omega (arith, last)) (omega (arith, n, lt, late, last)))
    (λ behind.
    let step : k + 1 - length xs ≡ k - length xs + 1 = omega (arith, behind) in
    let at_k : get_or (xs ++ ys) k d ≡ get_or ys (k - length xs) d = get_or-append_right xs ys (length xs) k d refl behind in
    ap₂ stands at_k next
    ∙ second (k - length xs) (k + 1 - length xs) d (omega (arith, step)) (omega (arith, n, lt, behind)))
    (cases_lt k (length xs)))
    (cases_lt (k + 1) (length xs)))

-- children are not in another order than those that tell them apart
turned : (o p : Ordering) → p ≡ ordering_reverse o → is_lt o ≡ false → o ≢ Equal → p ≡ Less
turned Less p e least differ = absurd (true≢false least)
turned Equal p e least differ = absurd (differ refl)
turned Greater p e least differ = e

-- sorted children, no two of which have the same values, are in strict order
pub strict : (xs : List Child) → IsSortedBy (λ a b. is_lt (stands a b)) xs → AllPairs (λ (a b : Child). a.values ≢ b.values) xs
    → AllPairs IsChildBefore xs
strict xs sorted distinct =
    rising_pairs stands children_total xs (length xs) (omega arith) (λ k d lt.
    let a : Child = get_or xs k d in
    let b : Child = get_or xs (k + 1) d in
    turned (stands b a) (stands a b) (values_total.antisymm a.values b.values) (sorted k d (omega arith) lt)
    (λ same. distinct k (k + 1) d (omega arith) lt (sym (exact_values b.values a.values same))))

same_decides : (a b : List (List ℕ)) → Decides (eq_by_cmp values_cmp a b) (a ≡ b)
same_decides a b = (
  λ said. exact_values a b (is_equal (values_cmp a b) said),
  λ same. subst (λ v. eq_by_cmp values_cmp a v ≡ true) same (rw (tied_itself values_total a) refl),
)
  where
    is_equal : (o : Ordering) → is_eq o ≡ true → o ≡ Equal
    is_equal Less said = absurd (true≢false (sym said))
    is_equal Equal said = refl
    is_equal Greater said = absurd (true≢false (sym said))

-- children no two of which have the same values stay so in another order
pub still_distinct : (xs ys : List Child) → IsPermutation xs ys → AllPairs (λ (a b : Child). a.values ≢ b.values) xs
    → AllPairs (λ (a b : Child). a.values ≢ b.values) ys
still_distinct xs ys moved distinct = λ i j d lt within same.
    let values = λ (child : Child). child.values in
    let n : length (map values ys) ≡ length ys = length-map ys values in
    let at_i : get_or (map values ys) i d.values ≡ (get_or ys i d).values = get_or-map values ys i d d.values (omega (
      arith,
      lt,
      within,
    )) in
    let at_j : get_or (map values ys) j d.values ≡ (get_or ys j d).values = get_or-map values ys j d d.values within in
    AllPairs-from_IsDistinct same_decides (map values ys)
    (IsDistinct-IsPermutation (eq_by_cmp values_cmp) (λ x y. (eq_by_cmp_equiv values_total).symm x y) (map values xs) (map values
    ys)
    (IsPermutation-map values xs ys moved)
    (IsDistinct-from_AllPairs same_decides (map values xs) (pairs_map (λ (a b : List (List ℕ)). a ≢ b) values xs distinct)))
    i j d.values lt (omega (arith, n, within)) (at_i ∙ same ∙ sym at_j)

-- children in strict order stand before others whose first stands behind their last
pub joined_at : (xs ys : List Child) (a b : Child) → ((d : Child) → a ≡ get_or xs (length xs - 1) d) → ((d : Child) → b ≡ get_or
    ys 0 d)
    → IsChildBefore a b → AllPairs IsChildBefore xs → AllPairs IsChildBefore ys → AllPairs IsChildBefore (xs ++ ys)
joined_at xs ys a b last first before front back =
    joined xs ys front back (λ d some more. ap₂ stands (sym (last d)) (sym (first d)) ∙ before)

pub is_less : (o : Ordering) → is_lt o ≡ true → o ≡ Less
is_less Less said = refl
is_less Equal said = absurd (true≢false (sym said))
is_less Greater said = absurd (true≢false (sym said))
