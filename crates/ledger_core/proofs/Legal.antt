-- Legal rows: the row of zeros, what one operation and what a list of them adds, and two rows added.
use Rattle.std.proofs.Common.{◌≡◌, ◌≢◌, ℕ, zero, suc, ◌+◌, ◌*◌, ◌<◌, ◌≤◌, List, [], ◌∷◌, cond, length, take, drop, replicate}
use Rattle.std.proofs.Common.{refl, sym, subst, ap, ap₂, ◌∙◌, arith, inl, inr, slice_index, All}
use Rattle.std.specs.Prelude.{sum, sum_by}
use Rattle.std.specs.List.{range_with_len}
use Rattle.std.proofs.lemmas.List.{drop_more}
use Rattle.std.proofs.lemmas.List.Sums.{sum_by-cons}
use Rattle.std.proofs.lemmas.List.Elements.{All-head, All-tail}
use Rattle.std.proofs.lemmas.Bool.{eq-eqb, ne_eqb, cases_eq}
use Rattle.std.specs.Prelude.{Result, Ok, Err, OnOk, OnErr}
use Rattle.ledger_core.specs.declared.op.Op.{Op}
use Rattle.ledger_core.specs.declared.op_fault.OpFault.{OpFault}
use Rattle.ledger_core.specs.declared.op.Op.TheVariants.{Inc, Observe, Up, Down}
use Rattle.ledger_core.specs.Ops.{only, part, sum_ops, IsWithin}
use Rattle.ledger_core.specs.Row.{Accepts, Adds}
use Rattle.ledger_core.specs.Legal.{bucket_sum, IsLegal, SumsAreLegal, LegalSumsAreLegal}

only_same : (word by k : ℕ) → k ≡ word → only word by k ≡ by
only_same word by k e = ap (λ t. cond t by 0) (eq-eqb k word e)

only_other : (word by k : ℕ) → k ≢ word → only word by k ≡ 0
only_other word by k ne = ap (λ t. cond t by 0) (ne_eqb k word ne)

-- sums over the places from a on
pub sum_same : (f f' : ℕ → ℕ) (a n : ℕ) → ((k : ℕ) → a ≤ k → k < a + n → f k ≡ f' k)
    → sum_by f (range_with_len a n) ≡ sum_by f' (range_with_len a n)
sum_same f f' a zero same = refl
sum_same f f' a (suc n) same =
    sum_by-cons f a (range_with_len (a + 1) n)
    ∙ ap₂ ◌+◌ (same a (omega arith) (omega arith)) (sum_same f f' (a + 1) n (λ k low high. same k (omega arith) (omega arith)))
    ∙ sym (sum_by-cons f' a (range_with_len (a + 1) n))

sum_none : (f : ℕ → ℕ) (a n : ℕ) → ((k : ℕ) → a ≤ k → k < a + n → f k ≡ 0) → sum_by f (range_with_len a n) ≡ 0
sum_none f a zero none = refl
sum_none f a (suc n) none =
    sum_by-cons f a (range_with_len (a + 1) n)
    ∙ ap₂ ◌+◌ (none a (omega arith) (omega arith)) (sum_none f (a + 1) n (λ k low high. none k (omega arith) (omega arith)))

sum_one : (place a n : ℕ) → a ≤ place → place < a + n → sum_by (only place 1) (range_with_len a n) ≡ 1
sum_one place a zero low high = absurd (omega arith)
sum_one place a (suc n) low high =
    sum_by-cons (only place 1) a (range_with_len (a + 1) n)
    ∙ elim (cases_eq a place) [
      | inl here ↦ ap₂ ◌+◌ (only_same place 1 a here)
          (sum_none (only place 1) (a + 1) n (λ k after _. only_other place 1 k (omega arith)))
      | inr later ↦ ap₂ ◌+◌ (only_other place 1 a later) (sum_one place (a + 1) n (omega arith) (omega arith))
    ]

sum_both : (f f' : ℕ → ℕ) (xs : List ℕ) → sum_by (λ k. f k + f' k) xs ≡ sum_by f xs + sum_by f' xs
sum_both f f' [] = refl
sum_both f f' (x ∷ xs) =
    let both = sum_by-cons (λ k. f k + f' k) x xs in
    let one = sum_by-cons f x xs in
    let other = sum_by-cons f' x xs in
    let rest = sum_both f f' xs in
    omega arith

-- a histogram without a bucket and without a count
nothing_at : (c slot : ℕ) (word : ℕ → ℕ) → ((item : ℕ) → item < 27 → word (c + 27 * slot + item) ≡ 0)
    → word (c + 27 * slot + 26) ≡ bucket_sum c word slot
nothing_at c slot word none =
    none 26 (omega arith)
    ∙ sym (sum_none (λ place. word (c + 27 * slot + place)) 0 25 (λ k _ within. none k (omega arith)))

zero_word : (n k : ℕ) → slice_index (replicate n 0) k ≡ 0
zero_word zero k = refl
zero_word (suc n) zero = refl
zero_word (suc n) (suc k) = zero_word n k

pub legal_zeros : (c h n : ℕ) → IsLegal c h (slice_index (replicate n 0))
legal_zeros c h n = record {
  counts = λ slot _. nothing_at c slot (slice_index (replicate n 0)) (λ item _. zero_word n (c + 27 * slot + item));
}

-- words that agree with those of a legal row are legal
legal_same : (c h : ℕ) (old new : ℕ → ℕ) → ((k : ℕ) → new k ≡ old k) → IsLegal c h old → IsLegal c h new
legal_same c h old new same legal = record {
  counts = λ slot within.
      same (c + 27 * slot + 26)
      ∙ legal.counts slot within
      ∙ sum_same (λ place. old (c + 27 * slot + place)) (λ place. new (c + 27 * slot + place)) 0 25
      (λ k _ _. sym (same (c + 27 * slot + k)));
}

pub legal_sums : (c h : ℕ) → LegalSumsAreLegal c h
legal_sums c h a b legal legal' = record {
  counts = λ slot within.
      ap₂ ◌+◌ (legal.counts slot within) (legal'.counts slot within)
      ∙ sym (sum_both (λ place. a (c + 27 * slot + place)) (λ place. b (c + 27 * slot + place)) (range_with_len 0 25));
}

module _ (c h hist place value slot : ℕ) (low : place < 25) where
  abbrev observed : ℕ → ℕ
  observed item = part c h (Observe hist place value) (c + 27 * slot + item)

  -- another histogram stays as it was
  elsewhere : slot ≢ hist → (item : ℕ) → item < 27 → observed item ≡ 0
  elsewhere other item within =
      ap₂ ◌+◌ (ap₂ ◌+◌
      (only_other (c + 27 * hist + place) 1 (c + 27 * slot + item) (omega arith))
      (only_other (c + 27 * hist + 25) value (c + 27 * slot + item) (omega arith)))
      (only_other (c + 27 * hist + 26) 1 (c + 27 * slot + item) (omega arith))

  count_there : slot ≡ hist → observed 26 ≡ 1
  count_there here =
      ap₂ ◌+◌ (ap₂ ◌+◌
      (only_other (c + 27 * hist + place) 1 (c + 27 * slot + 26) (omega arith))
      (only_other (c + 27 * hist + 25) value (c + 27 * slot + 26) (omega arith)))
      (only_same (c + 27 * hist + 26) 1 (c + 27 * slot + 26) (omega arith))

  first_there : slot ≡ hist → (k : ℕ) → only (c + 27 * hist + place) 1 (c + 27 * slot + k) ≡ only place 1 k
  first_there here k =
      elim (cases_eq k place) [
        | inl same ↦ only_same (c + 27 * hist + place) 1 (c + 27 * slot + k) (omega arith) ∙ sym (only_same place 1 k same)
        | inr other ↦ only_other (c + 27 * hist + place) 1 (c + 27 * slot + k) (omega arith) ∙ sym (only_other place 1 k other)
      ]

  bucket_there : slot ≡ hist → (k : ℕ) → k < 25 → observed k ≡ only place 1 k
  bucket_there here k within =
      ap₂ ◌+◌ (ap₂ ◌+◌
      (first_there here k)
      (only_other (c + 27 * hist + 25) value (c + 27 * slot + k) (omega arith)))
      (only_other (c + 27 * hist + 26) 1 (c + 27 * slot + k) (omega arith))
      ∙ omega arith

  counts_at : part c h (Observe hist place value) (c + 27 * slot + 26) ≡ bucket_sum c (part c h (Observe hist place value)) slot
  counts_at =
      elim (cases_eq slot hist) [
        | inl here ↦
            count_there here
            ∙ sym (sum_same observed (only place 1) 0 25 (λ k _ within. bucket_there here k (omega arith))
            ∙ sum_one place 0 25 (omega arith) (omega arith))
        | inr other ↦ nothing_at c slot (part c h (Observe hist place value)) (elsewhere other)
      ]

counts_part : (c h g : ℕ) (op : Op) → IsWithin c h g op → (slot : ℕ) → slot < h → part c h op (c + 27 * slot + 26) ≡ bucket_sum c
    (part c h op) slot
counts_part c h g (Inc counter by) within slot lt =
    nothing_at c slot (part c h (Inc counter by)) (λ item _. only_other counter by (c + 27 * slot + item) (omega arith))
counts_part c h g (Observe hist place value) within slot lt = counts_at c h hist place value slot within.1
counts_part c h g (Up gauge by) within slot lt =
    nothing_at c slot (part c h (Up gauge by)) (λ item small. only_other (c + 27 * h + 2 * gauge) by (c + 27 * slot + item)
    (omega arith))
counts_part c h g (Down gauge by) within slot lt =
    nothing_at c slot (part c h (Down gauge by)) (λ item small. only_other (c + 27 * h + 2 * gauge + 1) by (c + 27 * slot + item)
    (omega arith))

pub legal_ops : (c h g : ℕ) → SumsAreLegal c h g
legal_ops c h g [] all = record { counts = λ slot _. nothing_at c slot (sum_ops c h []) (λ item _. refl) }
legal_ops c h g (op ∷ ops) all =
    let first : IsLegal c h (part c h op) = record { counts = counts_part c h g op (All-head (IsWithin c h g) op ops all) } in
    let rest = legal_ops c h g ops (All-tail (IsWithin c h g) op ops all) in
    legal_same c h (λ k. part c h op k + sum_ops c h ops k) (sum_ops c h (op ∷ ops)) (λ k. sum_by-cons (λ o. part c h o k) op ops)
    (legal_sums c h (part c h op) (sum_ops c h ops) first rest)

-- operations within the row leave a legal row legal
pub legal_adds : (c h g : ℕ) (old new : List ℕ) (ops : List Op) → All (IsWithin c h g) ops → Adds c h old ops new
    → IsLegal c h (slice_index old) → IsLegal c h (slice_index new)
legal_adds c h g old new ops all adds legal =
    legal_same c h (λ k. slice_index old k + sum_ops c h ops k) (slice_index new) adds.sums
    (legal_sums c h (slice_index old) (sum_ops c h ops) legal (legal_ops c h g ops all))

-- the words from a + b on, n of them, added up
sum_part : (xs : List ℕ) (a b n : ℕ) → a + b + n ≤ length xs
    → sum (take n (drop (a + b) xs)) ≡ sum_by (λ k. slice_index xs (a + k)) (range_with_len b n)
sum_part xs a b zero within = refl
sum_part xs a b (suc n) within =
    let e : a + b + 1 ≡ a + (b + 1) = omega arith in
    rw (drop_more xs (a + b) 0 (omega (arith, within)), e)
    (sum_by-cons (λ x. x) (slice_index xs (a + b)) (take n (drop (a + (b + 1)) xs))
    ∙ ap (λ rest. slice_index xs (a + b) + rest) (sum_part xs a (b + 1) n (omega (arith, within))))
    ∙ sym (sum_by-cons (λ k. slice_index xs (a + k)) b (range_with_len (b + 1) n))

-- in a legal row the count of a histogram is the sum of its buckets
pub legal_buckets : (c h slot : ℕ) (row : List ℕ) (count : ℕ) (buckets : List ℕ) → slot < h → c + 27 * slot + 26 < length row
    → IsLegal c h (slice_index row) → count ≡ slice_index row (c + 27 * slot + 26) → buckets ≡ take 25 (drop (c + 27 * slot) row)
    → count ≡ sum buckets
legal_buckets c h slot row count buckets lt within legal count_is buckets_are =
    let e : c + 27 * slot + 0 ≡ c + 27 * slot = omega arith in
    count_is ∙ legal.counts slot lt
    ∙ sym (ap sum buckets_are ∙ subst (λ a. sum (take 25 (drop a row)) ≡ bucket_sum c (slice_index row) slot) e
    (sum_part row (c + 27 * slot) 0 25 (omega (arith, within))))

-- a legal row is legal after a list that was accepted or refused
pub legal_after : {T : Type 0} (c h g : ℕ) (old new : List ℕ) (ops : List Op) (answer : Result T OpFault)
    → OnOk answer (Adds c h old ops new) → OnOk answer (Accepts c h g (slice_index old) ops) → OnErr answer (new ≡ old)
    → IsLegal c h (slice_index old) → IsLegal c h (slice_index new)
legal_after c h g old new ops (Ok x) adds accepts same legal = legal_adds c h g old new ops accepts.within adds legal
legal_after c h g old new ops (Err fault) adds accepts same legal = rw same legal
