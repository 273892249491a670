-- No word is over 2^48 - 1 by what a tally has.
use Rattle.std.proofs.Common.{◌≡◌, ℕ, suc, ◌+◌, ◌*◌, ◌-◌, ◌/◌, ◌%◌, ◌<◌, ◌≤◌, ◌⊎◌, inl, inr, ⊎_elim, List, [], ◌∷◌, Some}
use Rattle.std.proofs.Common.{slice_get, refl, arith, All, length, div-add-mod', mod-lt}
use Rattle.std.specs.List.{sum_by}
use Rattle.std.proofs.lemmas.List.Elements.{All-get_or, All-head, All-tail}
use Rattle.std.proofs.lemmas.List.Sums.{sum_by-cons}
use Rattle.std.proofs.lemmas.Option.{slice_get_within, get_or_from_slice_get}
use Rattle.std.proofs.lemmas.Bool.{cases_lt, cases_eq}
use Rattle.std.proofs.lemmas.Bool.Decides.{nat_tests}
use Rattle.bucket_math.specs.Words.{greatest_word}
use Rattle.ledger_core.specs.declared.op.Op.{Op}
use Rattle.ledger_core.specs.declared.op.Op.TheVariants.{Inc, Observe, Up, Down}
use Rattle.ledger_core.specs.Ops.{only, part, sum_ops, IsWithin}
use Rattle.ledger_core.specs.Joining.{IsSameSlot, IsSmall}
use Rattle.ledger_core.specs.Tally.{AreMerged, AreBounded, AreSums}

none_adds : (f : Op → ℕ) (xs : List Op) → ((i : ℕ) (a : Op) → slice_get xs i ≡ Some a → f a ≡ 0) → sum_by f xs ≡ 0
none_adds f [] nothing = refl
none_adds f (x ∷ xs) nothing =
    let e = sum_by-cons f x xs in
    let here = nothing 0 x refl in
    let rest = none_adds f xs (λ i a is. nothing (suc i) a is) in
    omega arith

-- where one at most adds something, the sum is no more than what each may add
one_adds : (f : Op → ℕ) (n : ℕ) (xs : List Op)
    → ((i j : ℕ) (a b : Op) → slice_get xs i ≡ Some a → slice_get xs j ≡ Some b → 0 < f a → 0 < f b → i ≡ j)
    → ((i : ℕ) (a : Op) → slice_get xs i ≡ Some a → f a ≤ n) → sum_by f xs ≤ n
one_adds f n [] one small = omega arith
one_adds f n (x ∷ xs) one small =
    let e = sum_by-cons f x xs in
    let here = small 0 x refl in
    elim (cases_lt 0 (f x)) [
      | inl fx ↦
          let rest = none_adds f xs (λ i a is.
          elim (cases_lt 0 (f a)) [
            | inl more ↦ let e' = one 0 (suc i) x a refl is fx more in absurd (omega arith)
            | inr low ↦ omega arith
          ]) in
          omega arith
      | inr low ↦
          let rest = one_adds f n xs (λ i j a b ia jb fa fb. let e = one (suc i) (suc j) a b ia jb fa fb in omega arith)
          (λ i a is. small (suc i) a is) in
          omega arith
    ]

only_there : (w by k : ℕ) → 0 < only w by k → k ≡ w
only_there w by k lt = grind (arith, nat_tests)

pub only_elsewhere : (w by k : ℕ) → (k ≡ w → ⊥) → only w by k ≡ 0
only_elsewhere w by k ne = grind (arith, nat_tests)

only_le : (w by k : ℕ) → only w by k ≤ by
only_le w by k = grind (arith, nat_tests)

-- a word of the histograms is one word of one of them
sum_place : (i j p q : ℕ) → p < 27 → q < 27 → 27 * i + p ≡ 27 * j + q → (i ≡ j) × (p ≡ q)
sum_place i j p q lp lq e = (omega arith, omega arith)

-- a word of a counter or of a gauge
abbrev pub IsPlain : (c h k : ℕ) → Type 0
IsPlain c h k = (k < c) ⊎ (c + 27 * h ≤ k)

observes_nothing : (c h k hist place value : ℕ) → IsPlain c h k → hist < h → place < 25
    → part c h (Observe hist place value) k ≡ 0
observes_nothing c h k hist place value plain lt lt' =
    let n1 : k ≡ c + 27 * hist + place → ⊥ = λ e. ⊎_elim (λ low. omega arith) (λ high. omega arith) plain in
    let n2 : k ≡ c + 27 * hist + 25 → ⊥ = λ e. ⊎_elim (λ low. omega arith) (λ high. omega arith) plain in
    let n3 : k ≡ c + 27 * hist + 26 → ⊥ = λ e. ⊎_elim (λ low. omega arith) (λ high. omega arith) plain in
    let a = only_elsewhere (c + 27 * hist + place) 1 k n1 in
    let b = only_elsewhere (c + 27 * hist + 25) value k n2 in
    let d = only_elsewhere (c + 27 * hist + 26) 1 k n3 in
    omega arith

small_part : (c h g k : ℕ) (a : Op) → IsPlain c h k → IsWithin c h g a → IsSmall a → part c h a k ≤ greatest_word
small_part c h g k (Inc counter by) plain inside small = let e = only_le counter by k in omega arith
small_part c h g k (Observe hist place value) plain inside small =
    rw (observes_nothing c h k hist place value plain inside.0 inside.1) (omega arith)
small_part c h g k (Up gauge by) plain inside small = let e = only_le (c + 27 * h + 2 * gauge) by k in omega arith
small_part c h g k (Down gauge by) plain inside small = let e = only_le (c + 27 * h + 2 * gauge + 1) by k in omega arith

same_word : (c h g k : ℕ) (a b : Op) → IsPlain c h k → IsWithin c h g a → IsWithin c h g b → 0 < part c h a k → 0 < part c h b k
    → IsSameSlot a b
same_word c h g k (Inc x m) (Inc y n) plain ia ib fa fb =
    let ea : k ≡ x = only_there (x) m k fa in
    let eb : k ≡ y = only_there (y) n k fb in
    omega arith
same_word c h g k (Inc x m) (Up y n) plain ia ib fa fb =
    let ea : k ≡ x = only_there (x) m k fa in
    let eb : k ≡ c + 27 * h + 2 * y = only_there (c + 27 * h + 2 * y) n k fb in
    absurd (omega arith)
same_word c h g k (Inc x m) (Down y n) plain ia ib fa fb =
    let ea : k ≡ x = only_there (x) m k fa in
    let eb : k ≡ c + 27 * h + 2 * y + 1 = only_there (c + 27 * h + 2 * y + 1) n k fb in
    absurd (omega arith)
same_word c h g k (Inc x m) (Observe hist place value) plain ia ib fa fb =
    let e = observes_nothing c h k hist place value plain ib.0 ib.1 in absurd (omega arith)
same_word c h g k (Up x m) (Inc y n) plain ia ib fa fb =
    let ea : k ≡ c + 27 * h + 2 * x = only_there (c + 27 * h + 2 * x) m k fa in
    let eb : k ≡ y = only_there (y) n k fb in
    absurd (omega arith)
same_word c h g k (Up x m) (Up y n) plain ia ib fa fb =
    let ea : k ≡ c + 27 * h + 2 * x = only_there (c + 27 * h + 2 * x) m k fa in
    let eb : k ≡ c + 27 * h + 2 * y = only_there (c + 27 * h + 2 * y) n k fb in
    omega arith
same_word c h g k (Up x m) (Down y n) plain ia ib fa fb =
    let ea : k ≡ c + 27 * h + 2 * x = only_there (c + 27 * h + 2 * x) m k fa in
    let eb : k ≡ c + 27 * h + 2 * y + 1 = only_there (c + 27 * h + 2 * y + 1) n k fb in
    absurd (omega arith)
same_word c h g k (Up x m) (Observe hist place value) plain ia ib fa fb =
    let e = observes_nothing c h k hist place value plain ib.0 ib.1 in absurd (omega arith)
same_word c h g k (Down x m) (Inc y n) plain ia ib fa fb =
    let ea : k ≡ c + 27 * h + 2 * x + 1 = only_there (c + 27 * h + 2 * x + 1) m k fa in
    let eb : k ≡ y = only_there (y) n k fb in
    absurd (omega arith)
same_word c h g k (Down x m) (Up y n) plain ia ib fa fb =
    let ea : k ≡ c + 27 * h + 2 * x + 1 = only_there (c + 27 * h + 2 * x + 1) m k fa in
    let eb : k ≡ c + 27 * h + 2 * y = only_there (c + 27 * h + 2 * y) n k fb in
    absurd (omega arith)
same_word c h g k (Down x m) (Down y n) plain ia ib fa fb =
    let ea : k ≡ c + 27 * h + 2 * x + 1 = only_there (c + 27 * h + 2 * x + 1) m k fa in
    let eb : k ≡ c + 27 * h + 2 * y + 1 = only_there (c + 27 * h + 2 * y + 1) n k fb in
    omega arith
same_word c h g k (Down x m) (Observe hist place value) plain ia ib fa fb =
    let e = observes_nothing c h k hist place value plain ib.0 ib.1 in absurd (omega arith)
same_word c h g k (Observe hist place value) b plain ia ib fa fb =
    let e = observes_nothing c h k hist place value plain ia.0 ia.1 in absurd (omega arith)

has_all : (P : Op → Type 0) (ops : List Op) (i : ℕ) (a : Op) → All P ops → slice_get ops i ≡ Some a → P a
has_all P ops i a all is = rw (get_or_from_slice_get ops i a a is) at (All-get_or P ops i a (slice_get_within ops i a is) all)

plain_words : (c h g : ℕ) (ops : List Op) → All (IsWithin c h g) ops → All IsSmall ops → AreMerged ops
    → (k : ℕ) → IsPlain c h k → sum_ops c h ops k ≤ greatest_word
plain_words c h g ops within small merged = λ k plain.
    one_adds (λ op. part c h op k) greatest_word ops
    (λ i j a b ia jb fa fb. merged i j a b ia jb
    (same_word c h g k a b plain (has_all (IsWithin c h g) ops i a within ia) (has_all (IsWithin c h g) ops j b within jb) fa fb))
    (λ i a is. small_part c h g k a plain (has_all (IsWithin c h g) ops i a within is) (has_all IsSmall ops i a small is))

-- at a word of a histogram's buckets or of its count each operation adds 1 at most
one_part : (c h g i p : ℕ) (a : Op) → i < h → p < 27 → (p ≡ 25 → ⊥) → IsWithin c h g a → part c h a (c + 27 * i + p) ≤ 1
one_part c h g i p (Inc counter by) hi hp not inside = rw (only_elsewhere counter by (c + 27 * i + p) (λ e. omega arith))
    (omega arith)
one_part c h g i p (Observe hist place value) hi hp not inside =
    let n : c + 27 * i + p ≡ c + 27 * hist + 25 → ⊥ = λ e. not (sum_place i hist p 25 hp (omega arith) (omega arith)).1 in
    let b = only_elsewhere (c + 27 * hist + 25) value (c + 27 * i + p) n in
    let a = only_le (c + 27 * hist + place) 1 (c + 27 * i + p) in
    let d = only_le (c + 27 * hist + 26) 1 (c + 27 * i + p) in
    let low = inside.1 in
    elim (cases_lt p 26) [
      | inl lt ↦
          let m : c + 27 * i + p ≡ c + 27 * hist + 26 → ⊥ =
          λ e. let q = (sum_place i hist p 26 hp (omega arith) (omega arith)).1 in omega arith in
          let d' = only_elsewhere (c + 27 * hist + 26) 1 (c + 27 * i + p) m in
          omega arith
      | inr ge ↦
          let m : c + 27 * i + p ≡ c + 27 * hist + place → ⊥ =
          λ e. let q = (sum_place i hist p place hp (omega arith) (omega arith)).1 in omega arith in
          let a' = only_elsewhere (c + 27 * hist + place) 1 (c + 27 * i + p) m in
          omega arith
    ]
one_part c h g i p (Up gauge by) hi hp not inside =
    rw (only_elsewhere (c + 27 * h + 2 * gauge) by (c + 27 * i + p) (λ e. omega arith)) (omega arith)
one_part c h g i p (Down gauge by) hi hp not inside =
    rw (only_elsewhere (c + 27 * h + 2 * gauge + 1) by (c + 27 * i + p) (λ e. omega arith)) (omega arith)

-- so that they add up to no more than there are operations
few_words : (c h g i p : ℕ) (ops : List Op) → i < h → p < 27 → (p ≡ 25 → ⊥) → All (IsWithin c h g) ops
    → sum_ops c h ops (c + 27 * i + p) ≤ length ops
few_words c h g i p [] hi hp not within = omega arith
few_words c h g i p (a ∷ ops) hi hp not within =
    let e = sum_by-cons (λ op. part c h op (c + 27 * i + p)) a ops in
    let here = one_part c h g i p a hi hp not (All-head (IsWithin c h g) a ops within) in
    let rest = few_words c h g i p ops hi hp not (All-tail (IsWithin c h g) a ops within) in
    omega arith

hist_word : (c h g i p : ℕ) (ops : List Op) (sums : List ℕ) → i < h → p < 27 → length ops ≤ 65536
    → All (IsWithin c h g) ops → AreSums c h ops sums → sum_ops c h ops (c + 27 * i + p) ≤ greatest_word
hist_word c h g i p ops sums hi hp all within are = elim (cases_eq p 25) [
  | inl e ↦ let s = are.are i hi in let l = are.small i hi in rw e (omega arith)
  | inr ne ↦ let s = few_words c h g i p ops hi hp ne within in omega arith
]

pub all_bounded : (c h g : ℕ) (ops : List Op) (sums : List ℕ) → length ops ≤ 65536
    → All (IsWithin c h g) ops → All IsSmall ops → AreMerged ops → AreSums c h ops sums → AreBounded c h ops
all_bounded c h g ops sums all within small merged are k = elim (cases_lt k c) [
  | inl low ↦ plain_words c h g ops within small merged k (inl low)
  | inr ge ↦ elim (cases_lt k (c + 27 * h)) [
    | inl lt ↦
        let e = div-add-mod' (k - c) 27 in
        let p : (k - c) % 27 < 27 = mod-lt (k - c) (omega arith) in
        let at : k ≡ c + 27 * ((k - c) / 27) + (k - c) % 27 = omega arith in
        rw at (hist_word c h g ((k - c) / 27) ((k - c) % 27) ops sums (omega arith) p all within are)
    | inr high ↦ plain_words c h g ops within small merged k (inr (omega arith))
  ]
]
