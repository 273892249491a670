-- What all workers have made adds up to the sum of their rows.
use Rattle.std.proofs.Common.{◌≡◌, ℕ, suc, ◌+◌, List, [], ◌∷◌, ◌++◌, length, map, take, refl, ap, ◌∙◌, arith}
use Rattle.std.proofs.Math.Seq.{take-length}
use Rattle.std.proofs.lemmas.List.Sums.{sum_by-append}
use mathlib.Core.Option.{some}
use lib.ListN.{get_elem?}
use Rattle.ledger_core.specs.declared.op.Op.{Op}
use Rattle.ledger_core.specs.Ops.{part, sum_ops}
use Rattle.register_rule.specs.declared.view.PublishEntry.{PublishEntry}
use Rattle.register_rule.specs.Sums.{word_after, vector_total}
use Rattle.snapshot_update.specs.declared.worker.Worker.{Worker}
use Rattle.snapshot_update.specs.Workers.{index_of, member_of, lists_of, ops_in}
use Rattle.chain_law.specs.Settled.{joined, made_all}
use Rattle.chain_law.proofs.Sums.{sums, sum_of}

both_sum : (c h : ℕ) (xs ys : List Op) (k : ℕ) → sum_ops c h (xs ++ ys) k ≡ sum_ops c h xs k + sum_ops c h ys k
both_sum c h xs ys k = sum_by-append (λ op. part c h op k) xs ys

joined_sum : (c h : ℕ) (xs : List PublishEntry) (k : ℕ) → sum_ops c h (joined (map ops_in xs)) k ≡ word_after (sum_ops c h) xs k
joined_sum c h [] k = refl
joined_sum c h (x ∷ xs) k = both_sum c h x.ops (joined (map ops_in xs)) k
    ∙ ap (λ (z : ℕ). sum_ops c h x.ops k + z) (joined_sum c h xs k)

-- one worker more adds its row
pub one_more : {N C H G : ℕ} (c h k : ℕ) (w : Worker N C H G) (ws : List (Worker N C H G))
    → sum_ops c h (made_all (w ∷ ws)) k ≡ word_after (sum_ops c h) (member_of w).work.made k + sum_ops c h (made_all ws) k
one_more c h k w ws =
    let e = both_sum c h (joined (lists_of w)) (made_all ws) k in let d = joined_sum c h (member_of w).work.made k in
    omega (arith, e, d)

module _ {N C H G : ℕ} (c h k : ℕ) (f : ℕ → ℕ) where
  -- where f has what each worker published, by its index
  pub all_sum : (ws : List (Worker N C H G))
      → ((p : ℕ) (w : Worker N C H G) → get_elem? ws p ≡ some w → f (index_of w) ≡ word_after (sum_ops c h)
      (member_of w).work.made k)
      → sum_ops c h (made_all ws) k ≡ sum_of f (map index_of ws)
  all_sum [] each = refl
  all_sum (w ∷ ws) each =
      let e = both_sum c h (joined (lists_of w)) (made_all ws) k in let d = joined_sum c h (member_of w).work.made k in
      let a = each 0 w refl in
      let b = all_sum ws (λ p v at. each (suc p) v at) in
      let s : sum_of f (index_of w ∷ map index_of ws) ≡ f (index_of w) + sum_of f (map index_of ws) = refl in
      omega (arith, e, d, a, b, s)

-- the rows of all workers together, at the numbers of all that they published
pub rows_sum : (adds : List Op → ℕ → ℕ) (made : ℕ → List PublishEntry) (k i : ℕ) (vector : List ℕ)
    → ((j s : ℕ) → get_elem? vector j ≡ some s → s ≡ length (made (i + j)))
    → vector_total adds made i vector k ≡ sums (λ x. word_after adds (made x) k) i (length vector)
rows_sum adds made k i [] all = refl
rows_sum adds made k i (s ∷ vector) all =
    let z : i + 0 ≡ i = omega arith in
    let whole : take s (made i) ≡ made i = ap (λ (n : ℕ). take n (made i)) (all 0 s refl ∙ ap (λ (x : ℕ). length (made x)) z)
    ∙ take-length (made i) in
    let later = rows_sum adds made k (suc i) vector (λ j x at. let e : i + suc j ≡ suc i + j = omega arith in
    all (suc j) x at ∙ ap (λ (q : ℕ). length (made q)) e) in
    (λ t. word_after adds (whole t) k + later t)
