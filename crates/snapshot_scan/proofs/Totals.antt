-- The totals of an answer: each is below 2^53, and of each histogram the buckets add up to the count.
use Rattle.std.proofs.Common.{◌≡◌, ℕ, zero, suc, ◌+◌, ◌*◌, ◌<◌, ◌≤◌, List, [], ◌∷◌, ◌++◌, length, take, slice_index, sym, ap, ◌∙◌}
use Rattle.std.proofs.Common.{subst, arith, append_assoc, append-nil}
use mathlib.Core.Option.{some}
use lib.ListN.{get_elem?}
use Rattle.std.proofs.Math.Seq.{take-length}
use Rattle.ledger_core.specs.declared.op.Op.{Op}
use Rattle.ledger_core.specs.Ops.{width, sum_ops}
use Rattle.ledger_core.specs.Row.{Accepts}
use Rattle.ledger_core.specs.Legal.{IsLegal}
use Rattle.ledger_core.proofs.Legal.{legal_zeros, legal_ops, legal_sums, sum_same}
use Rattle.register_rule.specs.declared.view.PublishEntry.{PublishEntry}
use Rattle.register_rule.specs.declared.view.Answer.{Answer}
use Rattle.register_rule.specs.declared.view.Member.{Member}
use Rattle.register_rule.specs.Sums.{word_after, vector_total, AcceptedInTurn}
use Rattle.register_rule.specs.SoundScans.{IsOneMoment}
use Rattle.register_rule.specs.Told.{AreRuled}
use Rattle.register_rule.proofs.Moments.{length_tab}
use Rattle.register_rule.proofs.Words.{read_at}
use Rattle.register_rule.proofs.Publish.{total_last}
use Rattle.snapshot_scan.specs.Snapshots.{AreLow}

-- a row of c counters, h histograms and g gauges
module _ (c h g : ℕ) where
  abbrev AreAccepted : (before after : List PublishEntry) → Type 0
  AreAccepted before after = AcceptedInTurn (sum_ops c h) (Accepts c h g) before after

  -- each version of a worker has words of at most 2^48 - 1
  row_low : (k : ℕ) → k < width c h g → (before after : List PublishEntry) (s : ℕ)
      → word_after (sum_ops c h) before k ≤ 281474976710655
      → AreAccepted before after
      → word_after (sum_ops c h) (before ++ take s after) k ≤ 281474976710655
  row_low k lt before after zero low legal = subst (λ (z : List PublishEntry). word_after (sum_ops c h) z k ≤ 281474976710655)
      (sym (append-nil before)) low
  row_low k lt before [] (suc s) low legal = subst (λ (z : List PublishEntry). word_after (sum_ops c h) z k ≤ 281474976710655)
      (sym (append-nil before)) low
  row_low k lt before (x ∷ xs) (suc s) low legal =
      let fits : word_after (sum_ops c h) before k + sum_ops c h (take (length x.ops) x.ops) k ≤ 281474976710655 =
      legal.0.fits (length x.ops) (omega arith) k lt in
      let all : sum_ops c h (take (length x.ops) x.ops) k ≡ sum_ops c h x.ops k = ap (λ (z : List Op). sum_ops c h z k)
      (take-length x.ops) in
      let one = total_last (sum_ops c h) before x k in
      subst (λ (z : List PublishEntry). word_after (sum_ops c h) z k ≤ 281474976710655) (append_assoc before (x ∷ []) (take s xs))
      (row_low k lt (before ++ x ∷ []) xs s (omega (arith, fits, all, one)) legal.1)

  -- and is legal
  row_legal : (before after : List PublishEntry) (s : ℕ) → AreAccepted before after
      → IsLegal c h (word_after (sum_ops c h) (take s after))
  row_legal before after zero legal = legal_zeros c h 0
  row_legal before [] (suc s) legal = legal_zeros c h 0
  row_legal before (x ∷ xs) (suc s) legal =
      legal_sums c h (sum_ops c h x.ops) (word_after (sum_ops c h) (take s xs)) (legal_ops c h g x.ops legal.0.within)
      (row_legal (before ++ x ∷ []) xs s legal.1)

  module _ (n : ℕ) (made : ℕ → List PublishEntry) (legal : (i : ℕ) → i < n → AreAccepted [] (made i)) where
    sum_low : (k : ℕ) → k < width c h g → (i : ℕ) (vector : List ℕ) → i + length vector ≤ n
        → vector_total (sum_ops c h) made i vector k ≤ length vector * 281474976710655
    sum_low k lt i [] le = omega arith
    sum_low k lt i (s ∷ vector) le =
        let one = row_low k lt [] (made i) s (omega arith) (legal i (omega (arith, le))) in
        let rest = sum_low k lt (suc i) vector (omega (arith, le)) in
        omega (arith, one, rest)

    sum_legal : (i : ℕ) (vector : List ℕ) → i + length vector ≤ n → IsLegal c h (vector_total (sum_ops c h) made i vector)
    sum_legal i [] le = legal_zeros c h 0
    sum_legal i (s ∷ vector) le =
        legal_sums c h (word_after (sum_ops c h) (take s (made i))) (vector_total (sum_ops c h) made (suc i) vector)
        (row_legal [] (made i) s (legal i (omega (arith, le)))) (sum_legal (suc i) vector (omega (arith, le)))

  -- words that agree with those of a legal row are legal
  legal_within : (row words : ℕ → ℕ) → ((k : ℕ) → k < width c h g → words k ≡ row k) → IsLegal c h row → IsLegal c h words
  legal_within row words same legal = record {
    counts = λ slot within.
        same (c + 27 * slot + 26) (omega (arith, within))
        ∙ (legal.counts slot within
        ∙ sum_same (λ place. row (c + 27 * slot + place)) (λ place. words (c + 27 * slot + place)) 0 25
        (λ k _ high. sym (same (c + 27 * slot + k) (omega (arith, within, high)))));
  }

-- an answer that a member of a board of n workers recorded
module _ (n c h g : ℕ) (few : n ≤ 32) (ms : List Member) (ruled : AreRuled n (width c h g) (sum_ops c h) (Accepts c h g) ms)
    (p q : ℕ) (m : Member) (a : Answer) (sits : get_elem? ms p ≡ some m) (records : get_elem? m.scan.recorded q ≡ some a) where
  pub entry : IsOneMoment n (width c h g) (sum_ops c h) ruled.made ruled.history a
  entry = ((ruled.scans p m sits).recorded q a records).0

  -- it has a number for each worker
  pub numbers_long : length a.vector ≡ n
  numbers_long = ap length entry.moment.2 ∙ length_tab 0 n _

  pub sum_at : (k : ℕ) → k < width c h g → slice_index a.totals k ≡ vector_total (sum_ops c h) ruled.made 0 a.vector k
  sum_at k lt = read_at a.totals k _ 0 (entry.totals k lt)

  -- each of its totals is below 2^53
  pub totals_low : AreLow (width c h g) a.totals
  totals_low k lt =
      let e = sum_at k lt in
      let low = sum_low c h g n ruled.made ruled.legal k lt 0 a.vector (omega (arith, numbers_long)) in
      omega (arith, e, low, numbers_long, few)

  -- and of each histogram the buckets add up to the count
  pub totals_legal : IsLegal c h (slice_index a.totals)
  totals_legal = legal_within c h g (vector_total (sum_ops c h) ruled.made 0 a.vector) (slice_index a.totals) sum_at
      (sum_legal c h g n ruled.made ruled.legal 0 a.vector (omega (arith, numbers_long)))
