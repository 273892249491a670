-- The place of a name among names in strict order.
use Rattle.std.proofs.Common.{◌≡◌, ◌≢◌, ℕ, ◌+◌, ◌<◌, false, List, [], ◌∷◌, length, map, get_or, AllPairs, Contains, Result, Ok}
use Rattle.std.proofs.Common.{Err, IfOk, IfErr}
use Rattle.std.proofs.Common.{refl, sym, ap, subst, ◌∙◌, arith, ⊎_elim}
use Rattle.std.specs.List.{HoldsAt}
use Rattle.std.specs.List.Sorted.{IsSortedBy, IsBinarySearchResult, IsNonDecreasingBy}
use Rattle.std.specs.Ordering.{nat_cmp, is_lt, ordering_index, ordering_reverse}
use Rattle.std.specs.declared.cmp.Ordering.{Ordering}
use Rattle.std.specs.declared.cmp.Ordering.TheVariants.{Less, Equal, Greater}
use Rattle.std.specs.Cmp.Lexicographic.{slice_cmp}
use Rattle.std.proofs.lemmas.Bool.{cases_lt}
use Rattle.std.proofs.lemmas.Cmp.{nat_list_cmp_total, tied_itself}
use Rattle.std.proofs.lemmas.List.{length-map, get_or-map}
use Rattle.std.proofs.lemmas.List.Sorted.{searchable_from_sorted}
use Rattle.std.proofs.lemmas.Map.Lookups.{exact_bytes}
use Rattle.expo_text.specs.Order.{IsBefore}
use Rattle.expo_text.proofs.Families.{before_differs}

not_less : (o p : Ordering) → o ≡ Less → p ≡ ordering_reverse o → is_lt p ≡ false
not_less o p less turned = rw (turned ∙ ap ordering_reverse less) refl

first : {X : Type 0} (xs : List X) (k : ℕ) → k < length xs → X
first [] k within = absurd (omega (arith, within))
first (x ∷ xs) k within = x

not_apart : (o : Ordering) → o ≡ Equal → o ≢ Less × o ≢ Greater
not_apart o same = (λ less. (cc), λ greater. (cc))

-- by a key that is a name
module _ {X : Type 0} (name : X → List ℕ) (xs : List X) (ordered : AllPairs (λ (a b : X). IsBefore (name a) (name b)) xs) where
  sorted : IsSortedBy (λ (a b : X). is_lt (slice_cmp nat_cmp (name a) (name b))) xs
  sorted k d low lt =
      not_less _ _ (ordered k (k + 1) d (omega arith) lt) (nat_list_cmp_total.antisymm (name (get_or xs (k + 1) d)) (name (get_or
      xs k d)))

  rising : (it : List ℕ) → IsNonDecreasingBy (λ (x : X). ordering_index (slice_cmp nat_cmp (name x) it)) xs
  rising it = searchable_from_sorted nat_list_cmp_total name xs it sorted

  -- two places of one name are one
  pub one_place : (i j : ℕ) (d : X) → i < length xs → j < length xs → name (get_or xs i d) ≡ name (get_or xs j d) → i ≡ j
  one_place i j d in_i in_j same = ⊎_elim
      (λ lt. absurd (before_differs _ _ (ordered i j d lt in_j) same))
      (λ ge. ⊎_elim
      (λ lt. absurd (before_differs _ _ (ordered j i d lt in_i) (sym same)))
      (λ le. omega (arith, ge, le))
      (cases_lt j i))
      (cases_lt i j)

  -- a search by halves finds a name that is there
  pub found : (it : List ℕ) (result : Result ℕ ℕ) → Contains (map name xs) it
      → IsBinarySearchResult (λ (x : X). slice_cmp nat_cmp (name x) it) xs result
      → IfErr result (λ (place : ℕ). ⊥)
  found it (Ok place) known position = tt
  found it (Err place) known position =
      let n : length (map name xs) ≡ length xs = length-map xs name in
      let parts = position (rising it) in
      let k : ℕ = known.0 in
      let within : k < length xs = omega (arith, n, known.1) in
      let d : X = first xs k within in
      let same : name (get_or xs k d) ≡ it = sym (get_or-map name xs k d it within) ∙ known.2 in
      let equal : slice_cmp nat_cmp (name (get_or xs k d)) it ≡ Equal =
      subst (λ n. slice_cmp nat_cmp (name (get_or xs k d)) n ≡ Equal) same (tied_itself nat_list_cmp_total (name (get_or xs k d)))
      in
      let apart = not_apart (slice_cmp nat_cmp (name (get_or xs k d)) it) equal in
      ⊎_elim (λ lt. apart.0 (parts.0 k d (omega arith) lt)) (λ ge. apart.1 (parts.1 k d ge within)) (cases_lt k place)

  pub named : (it : List ℕ) (result : Result ℕ ℕ)
      → IsBinarySearchResult (λ (x : X). slice_cmp nat_cmp (name x) it) xs result
      → IfOk result (λ (place : ℕ). HoldsAt (λ (x : X). name x ≡ it) xs place)
  named it (Ok place) position = λ d. exact_bytes (name (get_or xs place d)) it (position d)
  named it (Err place) position = tt
