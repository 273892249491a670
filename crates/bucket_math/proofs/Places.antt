-- The place of a value among rising bounds.
use Rattle.std.proofs.Common.{◌≡◌, ℕ, zero, suc, ◌+◌, ◌<◌, ◌≤◌, ◌↔◌, cond, ltb, List, [], ◌∷◌, length, get_or, ◌∙◌, ap, refl}
use Rattle.std.proofs.Common.{arith, inl, inr, ⊎_elim}
use Rattle.std.specs.Prelude.{AllPairs, slice_index}
use Rattle.std.proofs.lemmas.Bool.{lt-ltb, le-ltb, cases_lt}
use Rattle.std.proofs.lemmas.List.Sums.{sum_by-cons}
use Rattle.bucket_math.specs.Bounds.{place_of}

abbrev pub AreRising : List ℕ → Type 0
AreRising bounds = AllPairs (λ a b. a < b) bounds

rising-tail : (bound : ℕ) (bounds : List ℕ) → AreRising (bound ∷ bounds) → AreRising bounds
rising-tail bound bounds rising i j d lt within = rising (suc i) (suc j) d (omega arith) (omega arith)

rising-head : (bound : ℕ) (bounds : List ℕ) → AreRising (bound ∷ bounds) → (k : ℕ) → k < length bounds → bound < get_or bounds k 0
rising-head bound bounds rising k within = rising zero (suc k) 0 (omega arith) (omega arith)

place_of-below : (bound value : ℕ) (bounds : List ℕ) → bound < value
    → place_of (bound ∷ bounds) value ≡ suc (place_of bounds value)
place_of-below bound value bounds lt =
    sum_by-cons (λ b. cond (ltb b value) 1 0) bound bounds
    ∙ ap (λ t. cond t 1 0 + place_of bounds value) (lt-ltb bound value lt)
    ∙ omega arith

place_of-above : (bound value : ℕ) (bounds : List ℕ) → value ≤ bound → place_of (bound ∷ bounds) value ≡ place_of bounds value
place_of-above bound value bounds le =
    sum_by-cons (λ b. cond (ltb b value) 1 0) bound bounds
    ∙ ap (λ t. cond t 1 0 + place_of bounds value) (le-ltb bound value le)
    ∙ omega arith

-- no bound is below the value where each is at least as large
place_of-none : (bounds : List ℕ) (value : ℕ) → ((k : ℕ) → k < length bounds → value ≤ get_or bounds k 0)
    → place_of bounds value ≡ 0
place_of-none [] value large = refl
place_of-none (bound ∷ bounds) value large =
    place_of-above bound value bounds (large zero (omega arith))
    ∙ place_of-none bounds value (λ k within. large (suc k) (omega arith))

-- a value is at most a bound where its place is at most the bound's
pub at_most-bound : (bounds : List ℕ) (value k : ℕ) → AreRising bounds → k < length bounds → place_of bounds value ≤ k
    → value ≤ get_or bounds k 0
at_most-bound [] value k rising within le = absurd (omega arith)
at_most-bound (bound ∷ bounds) value zero rising within le =
    elim (cases_lt bound value) [
      | inl below ↦ let e = place_of-below bound value bounds below in absurd (omega arith)
      | inr above ↦ above
    ]
at_most-bound (bound ∷ bounds) value (suc k) rising within le =
    elim (cases_lt bound value) [
      | inl below ↦
          let e = place_of-below bound value bounds below in
          at_most-bound bounds value k (rising-tail bound bounds rising) (omega arith) (omega arith)
      | inr above ↦ let head = rising-head bound bounds rising k (omega arith) in omega arith
    ]

pub at_most-place : (bounds : List ℕ) (value k : ℕ) → AreRising bounds → k < length bounds → value ≤ get_or bounds k 0
    → place_of bounds value ≤ k
at_most-place [] value k rising within le = absurd (omega arith)
at_most-place (bound ∷ bounds) value zero rising within le =
    let none = place_of-none bounds value (λ k lt. let head = rising-head bound bounds rising k lt in omega arith) in
    let e = place_of-above bound value bounds le in
    omega arith
at_most-place (bound ∷ bounds) value (suc k) rising within le =
    let rest = at_most-place bounds value k (rising-tail bound bounds rising) (omega arith) le in
    elim (cases_lt bound value) [
      | inl below ↦ let e = place_of-below bound value bounds below in omega arith
      | inr above ↦ let e = place_of-above bound value bounds above in omega arith
    ]

pub inclusive : (bounds : List ℕ) (value k : ℕ) → AreRising bounds → k < length bounds
    → (place_of bounds value ≤ k) ↔ (value ≤ slice_index bounds k)
inclusive bounds value k rising within =
    (at_most-bound bounds value k rising within, at_most-place bounds value k rising within)

-- no more bounds are below a value than there are
few : (bounds : List ℕ) (value : ℕ) → place_of bounds value ≤ length bounds
few [] value = omega arith
few (bound ∷ bounds) value =
    let rest = few bounds value in
    elim (cases_lt bound value) [
      | inl below ↦ let e = place_of-below bound value bounds below in omega arith
      | inr above ↦ let e = place_of-above bound value bounds above in omega arith
    ]

-- as many as these first ones, where they are below the value, and the next one is not
pub place_is : (bounds : List ℕ) (value k : ℕ) → AreRising bounds → k ≤ length bounds
    → ((i : ℕ) → i < k → get_or bounds i 0 < value) → (k < length bounds → value ≤ get_or bounds k 0) → k ≡ place_of bounds value
place_is bounds value k rising within below next =
    let most = few bounds value in
    let no_more : place_of bounds value ≤ k = ⊎_elim (λ lt. at_most-place bounds value k rising lt (next lt))
    (λ ge. omega (arith, ge, most)) (cases_lt k (length bounds)) in
    let no_fewer : k ≤ place_of bounds value = at_least k within below in
    omega (arith, no_more, no_fewer)
  where
    at_least : (n : ℕ) → n ≤ length bounds → ((i : ℕ) → i < n → get_or bounds i 0 < value) → n ≤ place_of bounds value
    at_least zero le lower = omega arith
    at_least (suc n) le lower = ⊎_elim
        (λ lt. let high = at_most-bound bounds value n rising (omega (arith, le)) (let h : place_of bounds value ≤ n = omega
        (arith, lt) in h) in
        let low = lower n (omega arith) in absurd (omega (arith, high, low)))
        (λ ge. ge)
        (cases_lt (place_of bounds value) (suc n))
