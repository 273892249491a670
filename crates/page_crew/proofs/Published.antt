-- Recorders of a page one after the other, and what they have published together on a board.
use Rattle.std.proofs.Common.{◌≡◌, ℕ, zero, suc, ◌+◌, ◌≤◌, List, [], ◌∷◌, ◌++◌, length, map, drop, refl, sym, ap, subst, ◌∙◌}
use Rattle.std.proofs.Common.{arith}
use mathlib.Core.Option.{some, some-injective, some-ne-none}
use lib.ListN.{get_elem?}
use Rattle.std.proofs.Math.ListN.{drop_of_length-le}
use Rattle.chain_law.specs.Settled.{made_all}
use Rattle.chain_law.proofs.Totals.{one_more}
use Rattle.ledger_core.specs.Ops.{sum_ops}
use Rattle.register_rule.specs.Sums.{word_after}
use Rattle.register_rule.proofs.Words.{at_below}
use Rattle.snapshot_update.specs.Workers.{index_of, member_of}
use Rattle.snapshot_update.specs.declared.worker.Worker.{Worker}
use Rattle.page_crew.specs.Settling.{CountsWith, workers_on, published_on, AreAll}
use Rattle.page_crew.specs.Shared.{worker_in}
use Rattle.page_crew.specs.declared.page_recorder.PageRecorder.{PageRecorder}
use Rattle.page_crew.specs.declared.shared_recorder.SharedRecorder.{SharedRecorder}
use Rattle.page_crew.proofs.OneBoard.{one_on, same_on}
use Rattle.page_crew.proofs.Places.{drop_next}

module _ {N C H G : ℕ} (board : ℕ) where
  -- the workers of recorders are that of the first, and those of the others
  next_workers : (r : PageRecorder N C H G) (s : SharedRecorder N C H G) (rs : List (PageRecorder N C H G)) → CountsWith board r s
      → workers_on board (r ∷ rs) ≡ worker_in s ∷ workers_on board rs
  next_workers r s rs counts = ap (λ (l : List (SharedRecorder N C H G)). map worker_in l ++ workers_on board rs) (one_on board r
      s counts)

  -- what those from a place on have published is what the one there has, and those behind it
  pub next_published : (rs : List (PageRecorder N C H G)) (p q k : ℕ) (r : PageRecorder N C H G) (s : SharedRecorder N C H G) →
      suc p ≡ q
      → get_elem? rs p ≡ some r → CountsWith board r s
      → published_on board (drop p rs) k ≡ word_after (sum_ops C H) (member_of (worker_in s)).work.made k + published_on board
      (drop q rs) k
  next_published rs p q k r s next at counts =
      ap (λ (l : List (PageRecorder N C H G)). published_on board l k) (drop_next rs p r at)
      ∙ (ap (λ (l : List (Worker N C H G)). sum_ops C H (made_all l) k) (next_workers r s (drop (suc p) rs) counts)
      ∙ (one_more C H k (worker_in s) (workers_on board (drop (suc p) rs))
      ∙ ap (λ n. word_after (sum_ops C H) (member_of (worker_in s)).work.made k + published_on board (drop n rs) k) next))

  -- behind the last one nothing is published
  pub none_published : (rs : List (PageRecorder N C H G)) (p k : ℕ) → length rs ≤ p → published_on board (drop p rs) k ≡ 0
  none_published rs p k few = ap (λ (l : List (PageRecorder N C H G)). published_on board l k) (drop_of_length-le rs few)

  -- the recorder at a place counts there with one
  pub with_one : (rs : List (PageRecorder N C H G)) → AreAll board rs → (p : ℕ) (r : PageRecorder N C H G) → get_elem? rs p ≡ some
      r
      → (s : SharedRecorder N C H G) × CountsWith board r s × (index_of (worker_in s) ≡ p)
  with_one rs all p r at =
      let lt = at_below rs p r at in let many = all.many in
      let (x, there, counts) = all.each p (omega (arith, lt, many)) in
      subst (λ (y : PageRecorder N C H G). (s : SharedRecorder N C H G) × CountsWith board y s
      × (index_of (worker_in s) ≡ p)) (some-injective x r (sym there ∙ at)) counts

  -- where each recorder stands at its place, its worker has that index
  pub at_its_place : (rs : List (PageRecorder N C H G)) → AreAll board rs → (p : ℕ) (r : PageRecorder N C H G)
      (s : SharedRecorder N C H G) → get_elem? rs p ≡ some r → CountsWith board r s → index_of (worker_in s) ≡ p
  at_its_place rs all p r s at counts =
      let (t, also, is) = with_one rs all p r at in ap (λ x. index_of (worker_in x)) (same_on board r s t counts also) ∙ is

  -- a board has 32 workers at most
  pub are_few : (rs : List (PageRecorder N C H G)) → AreAll board rs → length rs ≤ 32
  are_few [] all = omega arith
  are_few (r ∷ rs) all =
      let many = all.many in
      let (s, counts, is) = with_one (r ∷ rs) all 0 r refl in let most = (worker_in s).geometry.workers.1 in omega (
        arith,
        many,
        most,
      )

  -- this worker is that with which the recorder at its place counts
  abbrev Found : List (PageRecorder N C H G) → ℕ → Worker N C H G → Type 0
  Found rs p w = (r : PageRecorder N C H G) × (s : SharedRecorder N C H G) × (get_elem? rs p ≡ some r) × CountsWith board r s
      × (worker_in s ≡ w)

  found_more : (r : PageRecorder N C H G) (s : SharedRecorder N C H G) (rs : List (PageRecorder N C H G)) (w : Worker N C H G)
      → CountsWith board r s → ((p : ℕ) → get_elem? (workers_on board rs) p ≡ some w → Found rs p w)
      → (p : ℕ) → get_elem? (worker_in s ∷ workers_on board rs) p ≡ some w → Found (r ∷ rs) p w
  found_more r s rs w counts rest zero at = (r, s, refl, counts, some-injective (worker_in s) w at)
  found_more r s rs w counts rest (suc p) at = rest p at

  -- each worker of these recorders is so
  pub worker_at : (rs : List (PageRecorder N C H G))
      → ((p : ℕ) (r : PageRecorder N C H G) → get_elem? rs p ≡ some r → (s : SharedRecorder N C H G) × CountsWith board r s)
      → (p : ℕ) (w : Worker N C H G) → get_elem? (workers_on board rs) p ≡ some w
      → (r : PageRecorder N C H G) × (s : SharedRecorder N C H G) × (get_elem? rs p ≡ some r) × CountsWith board r s × (worker_in
      s ≡ w)
  worker_at [] each p w at = absurd (some-ne-none w (sym at))
  worker_at (r ∷ rs) each p w at =
      let (s, counts) = each 0 r refl in
      found_more r s rs w counts (λ q there. worker_at rs (λ k x is. each (suc k) x is) q w there) p
      (ap (λ (l : List (Worker N C H G)). get_elem? l p) (sym (next_workers r s rs counts)) ∙ at)
