-- What a page's recorders have published together, on one board.
use Rattle.std.specs.Prelude.{◌≡◌, ◌==◌, ◌⊎◌, ℕ, ◌<◌, List, ◌++◌, map, flat_map, length, Contains}
use Rattle.std.specs.List.{filter}
use mathlib.Core.Option.{some}
use lib.ListN.{get_elem?}
use Rattle.chain_law.specs.Settled.{made_all, IsSettled}
use Rattle.ledger_core.specs.Ops.{sum_ops}
use Rattle.rtrb.specs.Ring.{SameConsumer}
use Rattle.snapshot_scan.specs.Snapshots.{Taken}
use Rattle.snapshot_update.specs.Workers.{index_of, member_of}
use Rattle.snapshot_update.specs.declared.worker.Worker.{Worker}
use Rattle.page_crew.specs.Held.{recorders_of, first_of, feed_of}
use Rattle.page_crew.specs.Shared.{id_in, worker_in}
use Rattle.page_crew.specs.declared.fault.SettleFault.{SettleFault}
use Rattle.page_crew.specs.declared.fault.SettleFault.TheVariants.{NotAll, NoMemory}
use Rattle.page_crew.specs.declared.page_recorder.PageRecorder.{PageRecorder}
use Rattle.page_crew.specs.declared.shared_recorder.SharedRecorder.{SharedRecorder}

-- the number of each reason for which there are no exact totals
abbrev pub settle_fault_number : SettleFault → ℕ
settle_fault_number (NotAll board missing) = 18
settle_fault_number NoMemory = 6

module _ {N C H G : ℕ} where
  -- it may have taken workers of boards that came since, and is the same otherwise
  pub record HasJoined (old new : PageRecorder N C H G) : Type 0 where
    pub came : List (SharedRecorder N C H G)
    pub recorders : recorders_of new ≡ recorders_of old ++ came
    pub first : first_of new ≡ first_of old
    pub feed : SameConsumer (feed_of old) (feed_of new)

  -- the board is that of this id
  module _ (board : ℕ) where
    -- the page's recorder counts on the board with this one
    abbrev pub CountsWith : PageRecorder N C H G → SharedRecorder N C H G → Type 0
    CountsWith r s = Contains (recorders_of r) s × (id_in s ≡ board)

    -- it counts as worker i there
    abbrev pub CountsAs : (i : ℕ) → PageRecorder N C H G → Type 0
    CountsAs i r = (s : SharedRecorder N C H G) × CountsWith r s × (index_of (worker_in s) ≡ i)

    -- the workers with which these count there, in order
    abbrev pub workers_on : List (PageRecorder N C H G) → List (Worker N C H G)
    workers_on rs = flat_map (λ (r : PageRecorder N C H G).
        map worker_in (filter (λ (s : SharedRecorder N C H G). id_in s == board) (recorders_of r))) rs

    -- the recorder that counts as worker i there stands at place i
    abbrev pub StandsAt : List (PageRecorder N C H G) → (i : ℕ) → Type 0
    StandsAt rs i = (r : PageRecorder N C H G) × (get_elem? rs i ≡ some r) × CountsAs i r

    -- a recorder that counts as each worker there, at its place, and no other
    pub record AreAll (rs : List (PageRecorder N C H G)) : Type 0 where
      pub many : length rs ≡ N
      pub each : (i : ℕ) → i < N → StandsAt rs i

    -- the least place at which that recorder does not stand, but another one or none
    pub record IsMisplaced (rs : List (PageRecorder N C H G)) (i : ℕ) : Type 0 where
      pub before : (j : ℕ) → j < i → StandsAt rs j
      pub not_here : ¬ (StandsAt rs i)
      pub inside : (i < N) ⊎ (i < length rs)

    -- what all that these have published there adds to the word k of a row
    abbrev pub published_on : List (PageRecorder N C H G) → (k : ℕ) → ℕ
    published_on rs k = sum_ops C H (made_all (workers_on rs)) k

    -- a snapshot's vector has how often each of them has published there, at its place
    abbrev pub HasNumbers : List (PageRecorder N C H G) → (vector : List ℕ) → Type 0
    HasNumbers rs vector = (i : ℕ) (r : PageRecorder N C H G) (s : SharedRecorder N C H G) → get_elem? rs i ≡ some r → CountsWith
        r s
        → get_elem? vector i ≡ some (length (member_of (worker_in s)).work.made)

    -- there is a recorder of each worker at its place, and this is exactly what they have published there
    abbrev pub IsExactOn : List (PageRecorder N C H G) → Taken → Type 0
    IsExactOn rs totals = AreAll rs × IsSettled (workers_on rs) totals
