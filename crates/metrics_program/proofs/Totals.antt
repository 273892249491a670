-- The six counters have together counted each reply once.
use Rattle.std.proofs.Common.{◌≡◌, ◌⊎◌, ℕ, ◌+◌, ◌<◌, List, [], ◌∷◌, ◌++◌, length, map, slice_index, refl, ap, ◌∙◌, inl, inr}
use Rattle.std.proofs.Common.{arith}
use Rattle.ledger_core.specs.declared.op.Op.{Op}
use Rattle.ledger_core.specs.Ops.{only, sum_ops}
use Rattle.bucket_math.specs.Bounds.{place_of}
use Rattle.register_rule.specs.declared.board.Board.{Board}
use Rattle.register_rule.proofs.Words.{read_at}
use Rattle.scrape_http.specs.declared.serve.Served.{Served}
use Rattle.scrape_http.specs.declared.status.Status.{Status}
use Rattle.scrape_http.specs.declared.status.Status.TheVariants.{Success, BadRequest, NotFound, MethodNotAllowed, TooLarge}
use Rattle.scrape_http.specs.declared.status.Status.TheVariants.{Unavailable}
use Rattle.snapshot_scan.specs.Snapshots.{Taken}
use Rattle.snapshot_update.specs.declared.worker.Worker.{Worker}
use Rattle.snapshot_update.specs.Workers.{lists_of}
use Rattle.chain_law.specs.Settled.{joined, made_all}
use Rattle.chain_law.specs.Settled.{IsSettled}
use Rattle.metrics_program.specs.declared.metrics.Metrics.{Metrics}
use Rattle.metrics_program.specs.declared.threads.Four.{Four}
use Rattle.metrics_program.specs.Counted.{AreNewWorkers, AreSix, HasCounted, HaveCounted, IsNewWorker, all_of}
use Rattle.metrics_program.specs.Counted.{list_for, replies_counted, replies_in}
use Rattle.metrics_program.specs.Families.{counter_for}
use Rattle.metrics_program.proofs.SixCounters.{one_of_six, six_same, six_both, six_list}

module _ (m : Metrics) (are : AreSix m) where
  -- the sum over the counters of all statuses
  abbrev all : (ℕ → ℕ) → ℕ
  all g =
      g m.success.slot + g m.bad_request.slot + g m.not_found.slot + g m.method_not_allowed.slot + g m.too_large.slot
      + g m.unavailable.slot

  one_of : (slot : ℕ)
      → (slot ≡ m.success.slot) ⊎ (slot ≡ m.bad_request.slot) ⊎ (slot ≡ m.not_found.slot) ⊎ (slot ≡ m.method_not_allowed.slot)
      ⊎ (slot ≡ m.too_large.slot)
      ⊎ (slot ≡ m.unavailable.slot)
      → all (only slot 1) ≡ 1
  one_of = one_of_six _ _ _ _ _ _ are.bad_request are.not_found are.method_not_allowed are.too_large are.unavailable are.last

  one : (status : Status) → all (only (counter_for m status).slot 1) ≡ 1
  one Success = one_of _ (inl refl)
  one BadRequest = one_of _ (inr (inl refl))
  one NotFound = one_of _ (inr (inr (inl refl)))
  one MethodNotAllowed = one_of _ (inr (inr (inr (inl refl))))
  one TooLarge = one_of _ (inr (inr (inr (inr (inl refl)))))
  one Unavailable = one_of _ (inr (inr (inr (inr (inr refl)))))

  of_list : (served : Served) → all (sum_ops 64 8 (list_for m served)) ≡ 1
  of_list served =
      six_list _ _ _ _ _ _ are.bad_request are.not_found are.method_not_allowed are.too_large are.unavailable are.last
      (counter_for m served.status).slot
      m.bytes.slot (place_of m.bytes.bounds served.sent) served.sent (one served.status)

  both : (xs ys : List Op) → all (sum_ops 64 8 (xs ++ ys)) ≡ all (sum_ops 64 8 xs) + all (sum_ops 64 8 ys)
  both xs ys = six_both _ _ _ _ _ _ are.bad_request are.not_found are.method_not_allowed are.too_large are.unavailable are.last xs
      ys

  of_replies : (replies : List Served) → all (sum_ops 64 8 (joined (map (list_for m) replies))) ≡ length replies
  of_replies [] = refl
  of_replies (served ∷ replies) =
      let e = both (list_for m served) (joined (map (list_for m) replies)) in
      let first = of_list served in
      let later = of_replies replies in
      omega (arith, e, first, later)

  module _ (b : Board 4 64 8 16) where
    of_worker : (i : ℕ) (w v : Worker 4 64 8 16) → IsNewWorker b i w → (counted : HasCounted b m w v)
        → all (sum_ops 64 8 (joined (lists_of v))) ≡ length counted.replies
    of_worker i w v new counted =
        let lists : lists_of v ≡ map (list_for m) counted.replies = counted.lists
        ∙ ap (λ (l : List (List Op)). l ++ map (list_for m) counted.replies) new.lists in
        ap (λ (l : List (List Op)). all (sum_ops 64 8 (joined l))) lists ∙ of_replies counted.replies

    of_four : (was four : Four) → AreNewWorkers b was → (counted : HaveCounted b m was four)
        → all (sum_ops 64 8 (made_all (all_of four))) ≡ replies_counted counted
    of_four was four new counted =
        let of_a = of_worker 0 was.a four.a new.0 counted.0 in
        let of_b = of_worker 1 was.b four.b new.1 counted.1 in
        let of_c = of_worker 2 was.c four.c new.2 counted.2 in
        let of_d = of_worker 3 was.d four.d new.3 counted.3 in
        let from_a = both (joined (lists_of four.a)) (made_all (four.b ∷ four.c ∷ four.d ∷ [])) in
        let from_b = both (joined (lists_of four.b)) (made_all (four.c ∷ four.d ∷ [])) in
        let from_c = both (joined (lists_of four.c)) (made_all (four.d ∷ [])) in
        let from_d = both (joined (lists_of four.d)) [] in
        omega (arith, of_a, of_b, of_c, of_d, from_a, from_b, from_c, from_d)

    -- the total of all statuses is how many replies were counted
    pub all_counted : (was four : Four) → AreNewWorkers b was → (counted : HaveCounted b m was four) → (out : Taken)
        → IsSettled (all_of four) out
        → replies_in m out.totals ≡ replies_counted counted
    all_counted was four new counted out settled =
        let read : (k : ℕ) → k < 64 → slice_index out.totals k ≡ sum_ops 64 8 (made_all (all_of four)) k =
        λ k inside. read_at out.totals k _ 0 (settled.totals k (omega arith)) in
        six_same _ _ _ _ _ _ are.bad_request are.not_found are.method_not_allowed are.too_large are.unavailable are.last
        (slice_index out.totals)
        (sum_ops 64 8 (made_all (all_of four))) read
        ∙ of_four was four new counted
