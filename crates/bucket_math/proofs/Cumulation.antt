-- Values counted by their places: the buckets added up count the values up to a place.
use Rattle.std.proofs.Common.{◌≡◌, ℕ, zero, suc, ◌+◌, ◌<◌, ◌≤◌, Bool, true, false, cond, ltb, eqb, List, [], ◌∷◌, length, take}
use Rattle.std.proofs.Common.{refl, sym, ap, ◌∙◌, arith}
use Rattle.std.specs.Prelude.{◌==◌, nat_lt, nat_le, count_by, sum, slice_index}
use Rattle.std.proofs.lemmas.Bool.{lt-ltb, le-ltb}
use Rattle.std.proofs.lemmas.Bool.Decides.{nat_tests}
use Rattle.std.proofs.lemmas.List.{take_all}
use Rattle.std.proofs.lemmas.List.Sums.{sum_by-cons, sum_by_more, count_by-le-length}
use Rattle.bucket_math.specs.Bounds.{AreBounds, place_of}
use Rattle.bucket_math.specs.Buckets.{CumulationLaw}
use Rattle.bucket_math.proofs.Places.{AreRising, at_most-bound, at_most-place}

count_by-cons : (p : ℕ → Bool) (x : ℕ) (xs : List ℕ) → count_by p (x ∷ xs) ≡ cond (p x) 1 0 + count_by p xs
count_by-cons p x xs = sum_by-cons (λ y. cond (p y) 1 0) x xs

-- tests that agree count the same
count_by-same : (p q : ℕ → Bool) (xs : List ℕ) → ((x : ℕ) → p x ≡ q x) → count_by p xs ≡ count_by q xs
count_by-same p q [] same = refl
count_by-same p q (x ∷ xs) same =
    count_by-cons p x xs
    ∙ ap (λ t. cond t 1 0 + count_by p xs) (same x)
    ∙ ap (λ n. cond (q x) 1 0 + n) (count_by-same p q xs same)
    ∙ sym (count_by-cons q x xs)

count_by-all : (p : ℕ → Bool) (xs : List ℕ) → ((x : ℕ) → p x ≡ true) → count_by p xs ≡ length xs
count_by-all p [] all = refl
count_by-all p (x ∷ xs) all =
    count_by-cons p x xs
    ∙ ap (λ t. cond t 1 0 + count_by p xs) (all x)
    ∙ (let rest = count_by-all p xs all in omega arith)

count_by-none : (p : ℕ → Bool) (xs : List ℕ) → ((x : ℕ) → p x ≡ false) → count_by p xs ≡ 0
count_by-none p [] none = refl
count_by-none p (x ∷ xs) none =
    count_by-cons p x xs
    ∙ ap (λ t. cond t 1 0 + count_by p xs) (none x)
    ∙ (let rest = count_by-none p xs none in omega arith)

split_at : (a n : ℕ) → cond (ltb a (n + 1)) 1 0 ≡ cond (ltb a n) 1 0 + cond (eqb a n) 1 0
split_at a n = grind (arith, nat_tests)

-- those below n + 1 are those below n and those at n
count_by-more : (place : ℕ → ℕ) (n : ℕ) (xs : List ℕ)
    → count_by (λ x. nat_lt (place x) (n + 1)) xs ≡ count_by (λ x. nat_lt (place x) n) xs + count_by (λ x. place x == n) xs
count_by-more place n [] = omega arith
count_by-more place n (x ∷ xs) =
    let all = count_by-cons (λ x. nat_lt (place x) (n + 1)) x xs in
    let below = count_by-cons (λ x. nat_lt (place x) n) x xs in
    let here = count_by-cons (λ x. place x == n) x xs in
    let rest = count_by-more place n xs in
    let one = split_at (place x) n in
    omega arith

module _ (place : ℕ → ℕ) (values buckets : List ℕ) (long : length buckets ≡ 25)
    (counts : (n : ℕ) → n < 25 → slice_index buckets n ≡ count_by (λ value. place value == n) values) where
  pub sum-take : (n : ℕ) → n ≤ 25 → sum (take n buckets) ≡ count_by (λ value. nat_lt (place value) n) values
  sum-take zero le = sym (count_by-none (λ value. nat_lt (place value) 0) values (λ value. le-ltb (place value) 0 (omega arith)))
  sum-take (suc n) le =
      let more = sum_by_more (λ x. x) buckets n 0 (omega arith) in
      let so_far = sum-take n (omega arith) in
      let here = counts n (omega arith) in
      let split = count_by-more place n values in
      let e : suc n ≡ n + 1 = omega arith in
      rw e (omega arith)

  pub sum-all : ((value : ℕ) → place value ≤ 24) → sum buckets ≡ length values
  sum-all low =
      ap sum (sym (take_all 25 buckets (omega arith)))
      ∙ sum-take 25 (omega arith)
      ∙ count_by-all (λ value. nat_lt (place value) 25) values (λ value. let le = low value in
      lt-ltb (place value) 25 (omega arith))

-- a place below k + 1 is a value that is not above the bound at k
same_test : (bounds : List ℕ) (k : ℕ) → AreRising bounds → k < length bounds → (value : ℕ)
    → nat_lt (place_of bounds value) (k + 1) ≡ nat_le value (slice_index bounds k)
same_test bounds k rising within value =
    let to = at_most-bound bounds value k rising within in
    let from = at_most-place bounds value k rising within in
    grind (arith, nat_tests)

pub law : (bounds : List ℕ) → AreBounds bounds → CumulationLaw bounds
law bounds are values buckets counted =
    let few = are.few in
    let low : (value : ℕ) → place_of bounds value ≤ 24 = λ value. let le = count_by-le-length (λ bound. nat_lt bound value)
    bounds in omega arith in (
      λ k within.
          rw (lt-ltb k (length bounds) within)
          (sum-take (place_of bounds) values buckets counted.all_buckets counted.counts (k + 1) (omega arith)
          ∙ count_by-same (λ value. nat_lt (place_of bounds value) (k + 1)) (λ value. nat_le value (slice_index bounds k)) values
          (same_test bounds k are.rising within)),
      rw (le-ltb (length bounds) (length bounds) (omega arith))
          (sum-all (place_of bounds) values buckets counted.all_buckets counted.counts low),
    )
