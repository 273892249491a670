-- What the threads of a pool have promised, and what their results came to.
use Rattle.std.specs.Prelude.{◌≡◌, ℕ, List, length, Result, Bool}
use Rattle.std.specs.declared.thread.PromisedHandle.{PromisedHandle}
use mathlib.Core.Option.{some}
use lib.ListN.{get_elem?}
use Rattle.register_rule.specs.declared.board.Board.{Board}
use Rattle.snapshot_update.specs.declared.worker.Worker.{Worker}
use Rattle.worker_pool.specs.declared.fault.PoolFault.{PoolFault}
use Rattle.worker_pool.specs.declared.job.Job.{Job}
use Rattle.worker_pool.specs.declared.promise.Does.{Does}
use Rattle.worker_pool.specs.Jobs.{jobs_at}
use Rattle.worker_pool.specs.Works.{IsWorkEnd}

module _ {N C H G : ℕ} {Q : Type 0} (lists_of : Q → List (List Job)) where
  -- the thread promised to do these jobs with this worker, at this place
  pub record IsPledged (always_open : Bool) (b : Board N C H G) (place : ℕ) (jobs : List Job) (w : Worker N C H G)
      (p : Does Q N C H G) : Type 0 where
    pub board : p.board.now ≡ b
    pub always_open_is : p.always_open ≡ always_open
    pub place_is : p.place ≡ place
    pub jobs_are : jobs_at (lists_of p.lists.now) p.place ≡ jobs
    pub worker : p.was.value ≡ w

  -- each thread promised so for the worker and the list at its place
  abbrev pub ArePledged : (always_open : Bool) → Board N C H G → List (List Job) → List (Worker N C H G)
      → List (PromisedHandle (Result (Worker N C H G) PoolFault) (Does Q N C H G)) → Type 0
  ArePledged always_open b lists ws hs = (i : ℕ) (jobs : List Job) (w : Worker N C H G)
      (h : PromisedHandle (Result (Worker N C H G) PoolFault) (Does Q N C H G))
      → get_elem? lists i ≡ some jobs → get_elem? ws i ≡ some w → get_elem? hs i ≡ some h
      → IsPledged always_open b i jobs w h.promise

  -- these results keep the promises of these threads
  pub record HaveKept (hs : List (PromisedHandle (Result (Worker N C H G) PoolFault) (Does Q N C H G)))
      (ends : List (Result (Worker N C H G) PoolFault)) : Type 0 where
    pub all : length ends ≡ length hs
    pub each : (i : ℕ) (h : PromisedHandle (Result (Worker N C H G) PoolFault) (Does Q N C H G))
        (end : Result (Worker N C H G) PoolFault)
        → get_elem? hs i ≡ some h → get_elem? ends i ≡ some end
        → IsWorkEnd h.promise.always_open h.promise.board.now h.promise.place
        (jobs_at (lists_of h.promise.lists.now) h.promise.place) h.promise.was.value end
