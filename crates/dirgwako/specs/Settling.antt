-- What recorders have published together.
use Rattle.std.specs.Prelude.{◌≡◌, ◌⊎◌, ℕ, ◌<◌, List, map, length}
use mathlib.Core.Option.{some}
use lib.ListN.{get_elem?}
use Rattle.ledger_core.specs.Ops.{sum_ops}
use Rattle.snapshot_update.specs.declared.worker.Worker.{Worker}
use Rattle.snapshot_update.specs.Workers.{index_of, member_of}
use Rattle.chain_law.specs.Settled.{made_all}
use Rattle.dirgwako.specs.declared.recorder.Recorder.{Recorder}
use Rattle.dirgwako.specs.Recorders.{worker_in}

module _ {N C H G : ℕ} where
  -- the workers of these recorders, in order
  abbrev pub workers_in : List (Recorder N C H G) → List (Worker N C H G)
  workers_in rs = map worker_in rs

  -- the recorder of worker i stands at place i
  abbrev pub StandsAt : List (Recorder N C H G) → (i : ℕ) → Type 0
  StandsAt rs i = (r : Recorder N C H G) × (get_elem? rs i ≡ some r) × (index_of (worker_in r) ≡ i)

  -- a recorder of each worker, at its place, and no other
  pub record AreAll (rs : List (Recorder N C H G)) : Type 0 where
    pub many : length rs ≡ N
    pub each : (i : ℕ) → i < N → StandsAt rs i

  -- the least place at which the recorder of that worker does not stand, but another one or none
  pub record IsMisplaced (rs : List (Recorder N C H G)) (i : ℕ) : Type 0 where
    pub before : (j : ℕ) → j < i → StandsAt rs j
    pub not_here : ¬ (StandsAt rs i)
    pub inside : (i < N) ⊎ (i < length rs)

  -- what all that these recorders have published adds to the word k of a row
  abbrev pub published_in : List (Recorder N C H G) → (k : ℕ) → ℕ
  published_in rs k = sum_ops C H (made_all (workers_in rs)) k

  -- a snapshot's vector has how often each of them has published, at its place
  abbrev pub HasNumbers : List (Recorder N C H G) → (vector : List ℕ) → Type 0
  HasNumbers rs vector = (i : ℕ) (r : Recorder N C H G) → get_elem? rs i ≡ some r
      → get_elem? vector i ≡ some (length (member_of (worker_in r)).work.made)
