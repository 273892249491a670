-- How the work of one worker ends.
use Rattle.std.specs.Prelude.{◌≡◌, ◌++◌, ◌<◌, List, length, map, take, ℕ, All, Result, Ok, Err, Bool, false}
use mathlib.Core.Option.{some}
use lib.ListN.{get_elem?}
use Rattle.register_rule.specs.declared.board.Board.{Board}
use Rattle.register_rule.specs.Seats.{board_id}
use Rattle.snapshot_update.specs.declared.worker.Worker.{Worker}
use Rattle.snapshot_update.specs.declared.faults.CountFault.{CountFault}
use Rattle.snapshot_update.specs.Workers.{index_of, member_of, lists_of, IsWorkerOf, IsCountFault}
use Rattle.snapshot_update.specs.Faults.{count_fault_number}
use Rattle.worker_pool.specs.declared.fault.PoolFault.{PoolFault}
use Rattle.worker_pool.specs.declared.fault.PoolFault.TheVariants.{Refused, GateShut, NoThread, NoMemory}
use Rattle.worker_pool.specs.declared.job.Job.{Job}
use Rattle.snapshot_update.specs.JobOps.{op_of, registry_of}
use Rattle.worker_pool.specs.Jobs.{list_of_job}

module _ {N C H G : ℕ} where
  -- from w to v this worker of the board did these jobs: it published one list for each of them, in their order, and the
  -- handle of each is of this registry
  pub record Did (b : Board N C H G) (jobs : List Job) (w v : Worker N C H G) : Type 0 where
    pub of_board : IsWorkerOf b v
    pub index : index_of v ≡ index_of w
    pub lists : lists_of v ≡ lists_of w ++ map list_of_job jobs
    pub handles : All (λ job. registry_of job.what ≡ board_id b) jobs

  -- from w to v the worker did the first k jobs, and then refused the next one, which is of this line, for a reason of this
  -- number: it has published nothing else
  pub record WasRefused (b : Board N C H G) (jobs : List Job) (line number : ℕ) (w v : Worker N C H G) : Type 0 where
    pub k : ℕ
    pub job : Job
    pub at : get_elem? jobs k ≡ some job
    pub line_is : line ≡ job.line
    pub did : Did b (take k jobs) w v
    pub fault : CountFault
    pub refused : IsCountFault C H G (board_id b) (registry_of job.what) (op_of job.what) (member_of v) fault
    pub number_is : number ≡ count_fault_number fault

  -- from w to v the worker did the first k jobs and nothing else, and there was a next one
  pub record WasShutOut (b : Board N C H G) (jobs : List Job) (w v : Worker N C H G) : Type 0 where
    pub k : ℕ
    pub more : k < length jobs
    pub did : Did b (take k jobs) w v

  -- by this fault the work of the worker at this place stopped, from w to v: it was refused a job, or was shut out, by a gate
  -- that is not always open
  abbrev pub HasStopped : (always_open : Bool) → Board N C H G → (place : ℕ) → List Job → (w v : Worker N C H G) → PoolFault →
      Type 0
  HasStopped always_open b place jobs w v (Refused line number) = WasRefused b jobs line number w v
  HasStopped always_open b place jobs w v (GateShut worker) = (worker ≡ place) × (always_open ≡ false) × WasShutOut b jobs w v
  HasStopped always_open b place jobs w v (NoThread worker) = ⊥
  HasStopped always_open b place jobs w v NoMemory = ⊥

  -- it stopped, and is gone
  pub record IsStopped (always_open : Bool) (b : Board N C H G) (place : ℕ) (jobs : List Job) (w : Worker N C H G) (f : PoolFault)
      : Type 0 where
    pub v : Worker N C H G
    pub stopped : HasStopped always_open b place jobs w v f

  -- how the work of the worker at this place, on its thread, ends: it did all its jobs, or stopped
  abbrev pub IsWorkEnd : (always_open : Bool) → Board N C H G → (place : ℕ) → List Job → Worker N C H G
      → Result (Worker N C H G) PoolFault → Type 0
  IsWorkEnd always_open b place jobs w (Ok v) = Did b jobs w v
  IsWorkEnd always_open b place jobs w (Err f) = IsStopped always_open b place jobs w f
