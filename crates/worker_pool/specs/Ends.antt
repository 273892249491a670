-- How a run of a pool ends.
use Rattle.std.specs.Prelude.{◌≡◌, ◌<◌, ◌≤◌, ◌⊎◌, ℕ, List, length, Result, Err, Bool}
use mathlib.Core.Option.{some}
use lib.ListN.{get_elem?}
use Rattle.register_rule.specs.declared.board.Board.{Board}
use Rattle.snapshot_update.specs.declared.worker.Worker.{Worker}
use Rattle.worker_pool.specs.declared.fault.PoolFault.{PoolFault}
use Rattle.worker_pool.specs.declared.fault.PoolFault.TheVariants.{Refused, GateShut, NoThread, NoMemory}
use Rattle.worker_pool.specs.declared.job.Job.{Job}
use Rattle.worker_pool.specs.Faults.{IsLeast}
use Rattle.worker_pool.specs.Works.{Did, IsWorkEnd}

module _ {N C H G : ℕ} where
  -- from ws to vs each worker did the jobs of the list at its place, and stands at its old place
  pub record DidAll (b : Board N C H G) (lists : List (List Job)) (ws vs : List (Worker N C H G)) : Type 0 where
    pub all : length vs ≡ length ws
    pub each : (i : ℕ) (jobs : List Job) (w v : Worker N C H G) → get_elem? lists i ≡ some jobs → get_elem? ws i ≡ some w
        → get_elem? vs i ≡ some v
        → Did b jobs w v

  -- the ends of the workers that got a thread, which are the first ones: so each of them truly ended
  pub record AreEnds (always_open : Bool) (b : Board N C H G) (lists : List (List Job)) (ws : List (Worker N C H G))
      (ends : List (Result (Worker N C H G) PoolFault)) : Type 0 where
    pub few : length ends ≤ length ws
    pub each : (i : ℕ) (jobs : List Job) (w : Worker N C H G) (end : Result (Worker N C H G) PoolFault)
        → get_elem? lists i ≡ some jobs → get_elem? ws i ≡ some w
        → get_elem? ends i ≡ some end → IsWorkEnd always_open b i jobs w end

  -- this fault occurred at this place, in a run of n workers of which those that got a thread ended so: the worker there ended by
  -- it, or is the next one, for which there was no thread
  abbrev pub Occurred : (n : ℕ) → List (Result (Worker N C H G) PoolFault) → (place : ℕ) → PoolFault → Type 0
  Occurred n ends place f = (get_elem? ends place ≡ some (Err f))
      ⊎ ((place ≡ length ends) × (length ends < n) × (f ≡ NoThread place))

  -- the fault that is told: of those that occurred the one of the least kind, then of the least line, then of the least worker
  pub record IsFirstFault (always_open : Bool) (b : Board N C H G) (lists : List (List Job)) (ws : List (Worker N C H G))
      (f : PoolFault) : Type 0 where
    pub ends : List (Result (Worker N C H G) PoolFault)
    pub truly : AreEnds always_open b lists ws ends
    pub told : IsLeast (Occurred (length ws) ends) f

  -- why a pool hands no workers back: its first fault, or else there was no room for all workers, of which there is one
  abbrev pub IsPoolFault : (always_open : Bool) → Board N C H G → List (List Job) → List (Worker N C H G) → PoolFault → Type 0
  IsPoolFault always_open b lists ws NoMemory = 0 < length ws
  IsPoolFault always_open b lists ws (Refused line number) = IsFirstFault always_open b lists ws (Refused line number)
  IsPoolFault always_open b lists ws (GateShut worker) = IsFirstFault always_open b lists ws (GateShut worker)
  IsPoolFault always_open b lists ws (NoThread worker) = IsFirstFault always_open b lists ws (NoThread worker)
