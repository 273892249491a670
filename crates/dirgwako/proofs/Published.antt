-- Recorders one after the other, and what they have published together.
use Rattle.std.proofs.Common.{◌≡◌, ℕ, suc, ◌+◌, ◌≤◌, List, [], ◌∷◌, length, drop, sym, ap, ◌∙◌, arith}
use mathlib.Core.Option.{some, some-injective}
use lib.ListN.{get_elem?}
use Rattle.std.proofs.Math.ListN.{drop_of_length-le}
use Rattle.ledger_core.specs.Ops.{sum_ops}
use Rattle.register_rule.specs.Sums.{word_after}
use Rattle.snapshot_update.specs.declared.worker.Worker.{Worker}
use Rattle.snapshot_update.specs.Workers.{index_of, member_of}
use Rattle.register_rule.proofs.Words.{at_below}
use Rattle.chain_law.proofs.Totals.{one_more}
use Rattle.dirgwako.specs.declared.recorder.Recorder.{Recorder}
use Rattle.dirgwako.specs.Recorders.{worker_in}
use Rattle.page_crew.proofs.Places.{drop_next, mapped_at}
use Rattle.dirgwako.specs.Settling.{workers_in, published_in, AreAll}

module _ {N C H G : ℕ} where
  -- what those from a place on have published is what the one there has, and those behind it
  pub next_published : (rs : List (Recorder N C H G)) (p q k : ℕ) (r : Recorder N C H G) → suc p ≡ q → get_elem? rs p ≡ some r
      → published_in (drop p rs) k ≡ word_after (sum_ops C H) (member_of (worker_in r)).work.made k + published_in (drop q rs) k
  next_published rs p q k r next at = ap (λ (l : List (Recorder N C H G)). published_in l k) (drop_next rs p r at)
      ∙ (one_more C H k (worker_in r) (workers_in (drop (suc p) rs))
      ∙ ap (λ n. word_after (sum_ops C H) (member_of (worker_in r)).work.made k + published_in (drop n rs) k) next)

  -- behind the last one nothing is published
  pub none_published : (rs : List (Recorder N C H G)) (p k : ℕ) → length rs ≤ p → published_in (drop p rs) k ≡ 0
  none_published rs p k few = ap (λ (l : List (Recorder N C H G)). published_in l k) (drop_of_length-le rs few)

  -- a board has 32 workers at most
  pub are_few : (rs : List (Recorder N C H G)) → length rs ≡ N → length rs ≤ 32
  are_few [] many = omega arith
  are_few (r ∷ rs) many = let most = (worker_in r).geometry.workers.1 in omega (arith, many, most)

  -- a worker of these recorders is that of the recorder at its place
  pub worker_at : (rs : List (Recorder N C H G)) (p : ℕ) (w : Worker N C H G) → get_elem? (workers_in rs) p ≡ some w
      → (r : Recorder N C H G) × (get_elem? rs p ≡ some r) × (worker_in r ≡ w)
  worker_at rs p w e = mapped_at worker_in rs p w e

  -- where each recorder stands at its place, its worker has that index
  pub at_its_place : (rs : List (Recorder N C H G)) → AreAll rs → (p : ℕ) (r : Recorder N C H G) → get_elem? rs p ≡ some r
      → index_of (worker_in r) ≡ p
  at_its_place rs all p r at = let lt = at_below rs p r at in let many = all.many in
      let (x, there, is) = all.each p (omega (arith, lt, many)) in
      ap (λ y. index_of (worker_in y)) (some-injective r x (sym at ∙ there)) ∙ is
