-- Replies that a worker has counted.
use Rattle.std.proofs.Common.{◌≡◌, ℕ, List, [], ◌∷◌, ◌++◌, Result, Ok, Err, OnOk, OnErr, IfErr, map, refl, sym, subst, ap, ap₂}
use Rattle.std.proofs.Common.{All, ◌∙◌, append-nil, append_assoc, inl, inr, zero, suc, subst₂}
use Rattle.std.proofs.lemmas.List.{map-append}
use Rattle.std.proofs.lemmas.List.Elements.{All-nil, All-cons}
use Rattle.ledger_core.specs.declared.op.Op.{Op}
use Rattle.register_rule.specs.declared.board.Board.{Board}
use Rattle.register_rule.specs.declared.view.Member.{Member}
use Rattle.scrape_http.specs.declared.fault.WireFault.{WireFault}
use Rattle.scrape_http.specs.declared.serve.Served.{Served}
use Rattle.snapshot_update.specs.declared.faults.ApplyFault.{ApplyFault}
use Rattle.snapshot_update.specs.declared.worker.Worker.{Worker}
use Rattle.snapshot_update.specs.Workers.{index_of, lists_of, member_of, ops_in, IsApplyFault, IsWorkerOf}
use Rattle.metrics_program.specs.declared.metrics.Metrics.{Metrics}
use Rattle.metrics_program.specs.declared.threads.Four.{Four}
use Rattle.metrics_program.specs.Counted.{AreNewWorkers, HasCounted, HaveCounted, IsNewWorker, WasCounted, list_for}
use Rattle.metrics_program.specs.Counted.{AreAnswered, all_of}

-- they are those of the board, at home, and their order is that of their indexes
pub record AreFour (b : Board 4 64 8 16) (four : Four) : Type 0 where
  pub of_board : All (IsWorkerOf b) (all_of four)
  pub index : map index_of (all_of four) ≡ 0 ∷ 1 ∷ 2 ∷ 3 ∷ []

module _ (b : Board 4 64 8 16) (m : Metrics) where
  -- no reply yet
  pub none_yet : (w : Worker 4 64 8 16) → IsWorkerOf b w → HasCounted b m w w
  none_yet w own = record { of_board = own; index = refl; replies = []; lists = sym (append-nil (lists_of w)) }

  -- a reply was counted, or the worker refused it and is as it was
  pub applied : (w v : Worker 4 64 8 16) (served : Served) (ops : List Op) (r : Result Unit ApplyFault) → IsWorkerOf b v
      → index_of v ≡ index_of w
      → ops ≡ list_for m served → OnOk r (lists_of v ≡ lists_of w ++ ops ∷ []) → IfErr r (IsApplyFault 64 8 16 (member_of w) ops)
      → OnErr r (v ≡ w) → WasCounted b m w v (Ok served)
  applied w v served ops (Ok done) own index is lists why same = record {
    of_board = own;
    index = index;
    reply = inl (lists ∙ ap (λ (o : List Op). lists_of w ++ o ∷ []) is);
    fault = tt;
  }
  applied w v served ops (Err fault) own index is lists why same = record {
    of_board = own;
    index = index;
    reply = inr (ap member_of same, (fault, subst (λ (o : List Op). IsApplyFault 64 8 16 (member_of w) o fault) is why));
    fault = tt;
  }

  -- there was a fault, and nothing was counted
  pub not_served : (w : Worker 4 64 8 16) (fault : WireFault) → IsWorkerOf b w → WasCounted b m w w (Err fault)
  not_served w fault own = record { of_board = own; index = refl; reply = tt; fault = refl }

  -- as it is, it has counted nothing more
  unchanged : (w v : Worker 4 64 8 16) → IsWorkerOf b v → index_of v ≡ index_of w → member_of v ≡ member_of w → HasCounted b m w v
  unchanged w v own index same = record {
    of_board = own;
    index = index;
    replies = [];
    lists = ap (λ (x : Member). map ops_in x.work.made) same ∙ sym (append-nil (lists_of w));
  }

  -- one request more: one reply or none
  pub one_more : (w v : Worker 4 64 8 16) (r : Result Served WireFault) → WasCounted b m w v r → HasCounted b m w v
  one_more w v (Ok served) was = elim was.reply [
    | inl lists ↦ record { of_board = was.of_board; index = was.index; replies = served ∷ []; lists = lists }
    | inr none ↦ unchanged w v was.of_board was.index none.0
  ]
  one_more w v (Err fault) was = unchanged w v was.of_board was.index was.fault

  -- some replies, and then some more
  pub counted_more : (w v u : Worker 4 64 8 16) → HasCounted b m w v → HasCounted b m v u → HasCounted b m w u
  counted_more w v u first second =
      let more : map (list_for m) (first.replies ++ second.replies) ≡ map (list_for m) first.replies ++ map
      (list_for m) second.replies = map-append (list_for m) first.replies second.replies in
      record {
        of_board = second.of_board;
        index = second.index ∙ first.index;
        replies = first.replies ++ second.replies;
        lists = second.lists ∙ ap (λ (l : List (List Op)). l ++ map (list_for m) second.replies) first.lists
            ∙ append_assoc (lists_of w) (map (list_for m) first.replies) (map (list_for m) second.replies)
            ∙ ap (λ (l : List (List Op)). lists_of w ++ l) (sym more);
      }

  -- the four workers are the board's
  pub all_own : (was four : Four) → HaveCounted b m was four → All (IsWorkerOf b) (all_of four)
  all_own was four counted =
      let P = IsWorkerOf b in
      All-cons P four.a (four.b ∷ four.c ∷ four.d ∷ []) counted.0.of_board
      (All-cons P four.b (four.c ∷ four.d ∷ []) counted.1.of_board
      (All-cons P four.c (four.d ∷ []) counted.2.of_board (All-cons P four.d [] counted.3.of_board (All-nil P))))

  -- the four workers are there again, in their order
  pub back_again : (was four : Four) → AreNewWorkers b was → HaveCounted b m was four → AreFour b four
  back_again was four new counted =
      let index : (i : ℕ) (w v : Worker 4 64 8 16) → IsNewWorker b i w → HasCounted b m w v → index_of v ≡ i =
      λ i w v is has. has.index ∙ is.index_is in
      record {
        of_board = all_own was four counted;
        index = ap₂ (λ (i : ℕ) (is : List ℕ). i ∷ is) (index 0 was.a four.a new.0 counted.0)
            (ap₂ (λ (i : ℕ) (is : List ℕ). i ∷ is) (index 1 was.b four.b new.1 counted.1)
            (ap₂ (λ (i : ℕ) (is : List ℕ). i ∷ is) (index 2 was.c four.c new.2 counted.2)
            (ap (λ (i : ℕ). i ∷ []) (index 3 was.d four.d new.3 counted.3))));
      }

-- connections were answered, one after the other, by who has this board, these metrics and this worker
module _ {P : Type 0} (board_of : P → Board 4 64 8 16) (metrics_of : P → Metrics) (worker_of : P → Worker 4 64 8 16) where
  abbrev Answered : P → P → Type 0
  Answered before after = (board_of after ≡ board_of before) × (metrics_of after ≡ metrics_of before)
      × ((result : Result Served WireFault)
      × WasCounted (board_of before) (metrics_of before) (worker_of before) (worker_of after) result)

  abbrev Counted : P → P → Type 0
  Counted before after = HasCounted (board_of before) (metrics_of before) (worker_of before) (worker_of after)

  counted_so_far : (many : ℕ) (before after : P) → IsWorkerOf (board_of before) (worker_of before)
      → AreAnswered Answered many before after
      → (board_of after ≡ board_of before) × (metrics_of after ≡ metrics_of before) × Counted before after
  counted_so_far zero before after own same = (
    ap board_of same,
    ap metrics_of same,
    subst (Counted before) (sym same) (none_yet (board_of before) (metrics_of before) (worker_of before) own),
  )
  counted_so_far (suc more) before after own answered =
      let (mid, met, last) = answered in
      let (same_board, same_metrics, counted) = counted_so_far more before mid own met in
      let one = one_more (board_of mid) (metrics_of mid) (worker_of mid) (worker_of after) last.2.0 last.2.1 in (
        last.0 ∙ same_board,
        last.1 ∙ same_metrics,
        counted_more (board_of before) (metrics_of before) (worker_of before) (worker_of mid) (worker_of after) counted
            (subst₂ (λ (b : Board 4 64 8 16) (m : Metrics). HasCounted b m (worker_of mid) (worker_of after)) same_board
            same_metrics one),
      )

  pub counted_by : (many : ℕ) (before after : P) → IsWorkerOf (board_of before) (worker_of before)
      → AreAnswered Answered many before after → Counted before after
  counted_by many before after own met = (counted_so_far many before after own met).2
