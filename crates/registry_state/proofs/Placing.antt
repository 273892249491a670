-- Where a child goes among the children of its family.
use Rattle.std.proofs.Common.{◌≡◌, ℕ, zero, suc, ◌<◌, ◌≤◌, List, [], ◌∷◌, length, get_or, All, AllPairs, ◌≢◌, refl, ap, sym}
use Rattle.std.proofs.Common.{subst, ◌∙◌, arith}
use Rattle.std.specs.Prelude.{◌⊎◌, Result, Ok, Err, IfOk, IfErr, OnErr}
use Rattle.std.proofs.Common.{inl, inr}
use Rattle.std.specs.List.{insert, AllWithin, HoldsAt}
use Rattle.std.specs.List.Sorted.{IsNonDecreasingBy, IsSearchInRange, IsBinarySearchResult}
use Rattle.std.specs.Ordering.{nat_cmp, ordering_index, ordering_reverse, ordering_then}
use Rattle.std.specs.declared.cmp.Ordering.{Ordering}
use Rattle.std.specs.declared.cmp.Ordering.TheVariants.{Less, Equal, Greater}
use Rattle.std.specs.Cmp.{IsTotalOrder}
use Rattle.std.specs.Cmp.Lexicographic.{slice_cmp}
use Rattle.std.proofs.Math.Nat.{eq-or-lt_of_le}
use Rattle.std.proofs.lemmas.Cmp.{lists_total, nat_list_cmp_total, tied_itself}
use Rattle.std.proofs.lemmas.Map.Lookups.{CmpEqualImpliesEq, exact_bytes}
use Rattle.registry_state.specs.Replay.{Child, put}
use Rattle.registry_state.specs.Held.{IsChildBefore, IsPlaceOfValues}
use Rattle.registry_state.proofs.Lists.{cases_order}

abbrev pub stands : Child → Child → Ordering
stands a b = slice_cmp (slice_cmp nat_cmp) a.values b.values

pub values_total : IsTotalOrder (slice_cmp (slice_cmp nat_cmp))
values_total = lists_total nat_list_cmp_total

first_equal : (o p : Ordering) → ordering_then o p ≡ Equal → (o ≡ Equal) × (p ≡ Equal)
first_equal Less p e = absurd (cc)
first_equal Equal p e = (refl, e)
first_equal Greater p e = absurd (cc)

pub exact_values : CmpEqualImpliesEq (slice_cmp (slice_cmp nat_cmp))
exact_values [] [] e = refl
exact_values [] (y ∷ ys) e = absurd (cc)
exact_values (x ∷ xs) [] e = absurd (cc)
exact_values (x ∷ xs) (y ∷ ys) e =
    let both : (slice_cmp nat_cmp x y ≡ Equal) × (slice_cmp (slice_cmp nat_cmp) xs ys ≡ Equal) = first_equal _ _ e in
    let head : x ≡ y = exact_bytes x y both.0 in
    let rest : xs ≡ ys = exact_values xs ys both.1 in
    ap (λ z. z ∷ xs) head ∙ ap (λ zs. y ∷ zs) rest

-- a child is put where a search by halves would insert it
pub put_is : (child : Child) (xs : List Child) (i : ℕ) → i ≤ length xs
    → AllWithin (λ (y : Child). stands y child ≡ Less) xs 0 i → AllWithin (λ (y : Child). stands y child ≡ Greater) xs i
    (length xs)
    → put child xs ≡ insert xs i child
put_is child [] zero le less greater = refl
put_is child [] (suc i) le less greater = absurd (omega (arith, le))
put_is child (x ∷ xs) zero le less greater =
    let e : stands x child ≡ Greater = greater 0 x (omega arith) (omega arith) in rw e refl
put_is child (x ∷ xs) (suc i) le less greater =
    let e : stands x child ≡ Less = less 0 x (omega arith) (omega arith) in
    rw e (ap (λ rest. x ∷ rest) (put_is child xs i (omega (arith, le))
    (λ k d lo hi. less (suc k) d (omega arith) (omega (arith, hi)))
    (λ k d lo hi. greater (suc k) d (omega (arith, lo)) (omega (arith, hi)))))

i_or : (i j : ℕ) → i ≤ j → (i < j) ⊎ (i ≡ j)
i_or i j le = elim (eq-or-lt_of_le le) [ inl e ↦ inr e | inr lt ↦ inl lt ]

index_le : (a b : Ordering) → (b ≡ Less → a ≡ Less) → (b ≡ Equal → a ≡ Less) → ordering_index a ≤ ordering_index b
index_le a Less less equal = rw (less refl) (omega arith)
index_le a Equal less equal = rw (equal refl) (omega arith)
index_le Less Greater less equal = omega arith
index_le Equal Greater less equal = omega arith
index_le Greater Greater less equal = omega arith

-- one that stands before another stands before all that the other is equal to
before_equal : (x y z : Child) → stands x y ≡ Less → stands y z ≡ Equal → stands x z ≡ Less
before_equal x y z less equal =
    values_total.antisymm x.values z.values
    ∙ ap ordering_reverse (sym (values_total.congr y.values z.values x.values equal))
    ∙ sym (values_total.antisymm x.values y.values) ∙ less

-- what a search by halves asks of children in order
pub rising : (child : Child) (xs : List Child) → AllPairs IsChildBefore xs
    → IsNonDecreasingBy (λ (y : Child). ordering_index (stands y child)) xs
rising child xs ordered i j d le within =
    elim (i_or i j le) [
      | inl lt ↦ index_le _ _
          (λ less. values_total.trans (get_or xs i d).values (get_or xs j d).values child.values (ordered i j d lt within) less)
          (λ equal. before_equal (get_or xs i d) (get_or xs j d) child (ordered i j d lt within) equal)
      | inr e ↦ subst (λ k. ordering_index (stands (get_or xs i d) child) ≤ ordering_index (stands (get_or xs k d) child)) e
          (omega arith)
    ]

-- what a search by halves finds among children in order
pub found_at : (children : List Child) (values : List (List ℕ)) (result : Result ℕ ℕ) → AllPairs IsChildBefore children
    → IsSearchInRange result (length children)
    → IsBinarySearchResult (λ (child : Child). slice_cmp (slice_cmp nat_cmp) child.values values) children result
    → IfOk result (λ place. (place < length children) × HoldsAt (λ (child : Child). child.values ≡ values) children place)
found_at children values (Ok place) ordered within found =
    (within, λ d. exact_values (get_or children place d).values values (found d))
found_at children values (Err place) ordered within found = tt

pub place_at : (children : List Child) (values : List (List ℕ)) (result : Result ℕ ℕ) → AllPairs IsChildBefore children
    → IsSearchInRange result (length children)
    → IsBinarySearchResult (λ (child : Child). slice_cmp (slice_cmp nat_cmp) child.values values) children result
    → IfErr result (IsPlaceOfValues children values)
place_at children values (Ok place) ordered within found = tt
place_at children values (Err place) ordered within found =
    let parts = found (rising (record { values = values; slot = 0 }) children ordered) in
    record { within = within; front = parts.0; back = parts.1 }

-- no child has the values of which there is a place
pub place_is_new : (children : List Child) (values : List (List ℕ)) (place : ℕ) → IsPlaceOfValues children values place
    → All (λ (child : Child). child.values ≢ values) children
place_is_new children values place at k d within same =
    let child : Child = get_or children k d in
    let equal : slice_cmp (slice_cmp nat_cmp) child.values values ≡ Equal =
    subst (λ v. slice_cmp (slice_cmp nat_cmp) child.values v ≡ Equal) same (tied_itself values_total child.values) in
    elim (cases_order k place) [
      | inl lt ↦ not_both Less (λ e. cc) (at.front k d (omega arith) lt) equal
      | inr rest ↦ not_both Greater (λ e. cc)
          (at.back k d (elim rest [ inl e ↦ omega (arith, e) | inr gt ↦ omega (arith, gt) ]) within) equal
    ]
  where
    not_both : {o : Ordering} (p : Ordering) → (p ≡ Equal → ⊥) → o ≡ p → o ≡ Equal → ⊥
    not_both p other e f = other (sym e ∙ f)

pub put_at : (child : Child) (children : List Child) (place : ℕ) → IsPlaceOfValues children child.values place
    → put child children ≡ insert children place child
put_at child children place at = put_is child children place at.within at.front at.back

pub new_at : (children : List Child) (values : List (List ℕ)) (result : Result ℕ ℕ)
    → IfErr result (IsPlaceOfValues children values)
    → OnErr result (All (λ (child : Child). child.values ≢ values) children)
new_at children values (Ok place) at = tt
new_at children values (Err place) at = place_is_new children values place at
