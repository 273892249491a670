-- What the server counts of itself.
use Rattle.std.specs.Prelude.{◌≡◌, ◌⊎◌, ℕ, zero, suc, ◌+◌, ◌<◌, List, [], ◌∷◌, ◌++◌, map, length, slice_index, All, Result}
use Rattle.std.specs.Prelude.{IfOk, OnErr}
use Rattle.bucket_math.specs.Bounds.{place_of}
use Rattle.ledger_core.specs.declared.op.Op.{Op}
use Rattle.ledger_core.specs.declared.op.Op.TheVariants.{Inc, Observe}
use Rattle.register_rule.specs.Seats.{board_id}
use Rattle.register_rule.specs.declared.board.Board.{Board}
use Rattle.scrape_http.specs.declared.fault.WireFault.{WireFault}
use Rattle.scrape_http.specs.declared.serve.Served.{Served}
use Rattle.snapshot_update.specs.declared.faults.ApplyFault.{ApplyFault}
use Rattle.snapshot_update.specs.declared.worker.Worker.{Worker}
use Rattle.snapshot_update.specs.Workers.{index_of, lists_of, member_of, IsApplyFault, IsWorkerOf}
use Rattle.chain_law.specs.Settled.{AreMomentsOf, IsSettled}
use Rattle.snapshot_scan.specs.Snapshots.{Taken, as_answer}
use Rattle.snapshot_scan.specs.declared.scanner.Scanner.{Scanner}
use Rattle.registry_state.specs.Journal.{Entry, changes, scrapes}
use Rattle.registry_state.specs.Kept.{RegistryView}
use Rattle.registry_state.specs.Replay.{State, Replays}
use Rattle.metric_registry.specs.Naming.{BeginsWith}
use Rattle.metrics_program.specs.Families.{AreRegistered, counter_for}
use Rattle.metrics_program.specs.declared.metrics.Metrics.{Metrics}
use Rattle.metrics_program.specs.declared.threads.Four.{Four}

-- the list that counts a reply: 1 of its status, and its bytes
abbrev pub list_for : Metrics → Served → List Op
list_for m served =
    Inc (counter_for m served.status).slot 1
    ∷ Observe m.bytes.slot (place_of m.bytes.bounds served.sent) served.sent
    ∷ []

-- the counters of the six statuses are six of the board's 64, in this order: so no two of them are one
pub record AreSix (m : Metrics) : Type 0 where
  pub bad_request : m.success.slot < m.bad_request.slot
  pub not_found : m.bad_request.slot < m.not_found.slot
  pub method_not_allowed : m.not_found.slot < m.method_not_allowed.slot
  pub too_large : m.method_not_allowed.slot < m.too_large.slot
  pub unavailable : m.too_large.slot < m.unavailable.slot
  pub last : m.unavailable.slot < 64

-- the replies of all statuses, by these totals
abbrev pub replies_in : Metrics → List ℕ → ℕ
replies_in m totals =
    slice_index totals m.success.slot + slice_index totals m.bad_request.slot + slice_index totals m.not_found.slot
    + slice_index totals m.method_not_allowed.slot + slice_index totals m.too_large.slot + slice_index totals m.unavailable.slot

-- from w to v this worker of the board counted these replies, each as one list, and nothing else
pub record HasCounted (b : Board 4 64 8 16) (m : Metrics) (w v : Worker 4 64 8 16) : Type 0 where
  pub of_board : IsWorkerOf b v
  pub index : index_of v ≡ index_of w
  pub replies : List Served
  pub lists : lists_of v ≡ lists_of w ++ map (list_for m) replies

-- From w to v the worker counted what came of one request: a reply by its one list, or not at all where the worker
-- refuses that list; and a fault not at all.
pub record WasCounted (b : Board 4 64 8 16) (m : Metrics) (w v : Worker 4 64 8 16) (result : Result Served WireFault) : Type 0
  where
    pub of_board : IsWorkerOf b v
    pub index : index_of v ≡ index_of w
    pub reply : IfOk result (λ served. (lists_of v ≡ lists_of w ++ list_for m served ∷ []) ⊎ ((member_of v ≡ member_of w)
        × ((why : ApplyFault) × IsApplyFault 64 8 16 (member_of w) (list_for m served) why)))
    pub fault : OnErr result (member_of v ≡ member_of w)

module _ {A : Type 0} (answered : A → A → Type 0) where
  -- so many connections were answered, one after the other, and nothing else was done
  abbrev pub AreAnswered : (many : ℕ) → (before after : A) → Type 0
  AreAnswered zero before after = after ≡ before
  AreAnswered (suc more) before after = (mid : A) × AreAnswered more before mid × answered mid after

-- this is the worker of this index, at home, and it has published nothing
pub record IsNewWorker (b : Board 4 64 8 16) (index : ℕ) (w : Worker 4 64 8 16) : Type 0 where
  pub of_board : IsWorkerOf b w
  pub index_is : index_of w ≡ index
  pub lists : lists_of w ≡ []

-- these are the four workers of a new board, in order
abbrev pub AreNewWorkers : Board 4 64 8 16 → Four → Type 0
AreNewWorkers b four = IsNewWorker b 0 four.a × IsNewWorker b 1 four.b × IsNewWorker b 2 four.c × IsNewWorker b 3 four.d

-- each of the four has counted replies, and nothing else
abbrev pub HaveCounted : Board 4 64 8 16 → Metrics → (was four : Four) → Type 0
HaveCounted b m was four = HasCounted b m was.a four.a × HasCounted b m was.b four.b × HasCounted b m was.c four.c
    × HasCounted b m was.d four.d

-- how many replies these are, of all four
abbrev pub replies_counted : {b : Board 4 64 8 16} {m : Metrics} {was four : Four} → HaveCounted b m was four → ℕ
replies_counted counted = length counted.0.replies + length counted.1.replies + length counted.2.replies + length
    counted.3.replies

-- the four workers, in order
abbrev pub all_of : Four → List (Worker 4 64 8 16)
all_of four = four.a ∷ four.b ∷ four.c ∷ four.d ∷ []

-- So many replies were counted: each of the four workers of a new board has counted replies, and nothing else, and
-- these are so many together; and that is the total of the counters of all statuses, of which no two are one, by a
-- snapshot of all that the four have counted. The journal of the registry that was served replays: it begins with what
-- was registered first, before the registry was served, and in the end these are its metrics, each counter that of the
-- child of its code. The scrapes that it kept, and that snapshot after them, are moments of the one history of what the
-- four counted.
pub record AreReplies (b : Board 4 64 8 16) (m : Metrics) (first : RegistryView (Scanner 4 64 8 16)) (was : Four)
    (journal : List Entry) (replies : ℕ) : Type 0 where
  pub four : Four
  pub counted : HaveCounted b m was four
  pub number : replies ≡ replies_counted counted
  pub out : Taken
  pub settled : IsSettled (all_of four) out
  pub total : replies ≡ replies_in m out.totals
  pub state : State
  pub replays : Replays 4 64 8 16 journal state
  pub begins : BeginsWith (changes first.journal) journal
  pub registered : ∥ AreRegistered (board_id b) state.families m ∥₁
  pub moments : AreMomentsOf (all_of four) (scrapes journal ++ as_answer out ∷ [])
