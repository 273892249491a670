-- Behind a gate that is always open no fault has the number of a shut gate.
use Rattle.std.proofs.Common.{◌≡◌, ◌≢◌, ⊎_elim, ℕ, List, length, Result, Ok, Err, IfErr, sym, subst, ◌∙◌, arith, Bool, true}
use Rattle.std.proofs.Common.{false}
use Rattle.std.specs.declared.vec.Vec.{Vec}
use Rattle.std.specs.declared.alloc.Global.{Global}
use Rattle.ledger_core.specs.declared.op_fault.OpFault.TheVariants.{OutOfGeometry, TooLarge}
use Rattle.register_rule.specs.declared.board.Board.{Board}
use Rattle.register_rule.proofs.Words.{at_below}
use Rattle.snapshot_update.specs.Faults.{count_fault_number}
use Rattle.snapshot_update.specs.declared.worker.Worker.{Worker}
use Rattle.snapshot_update.specs.declared.faults.ApplyFault.TheVariants as apply
use Rattle.snapshot_update.specs.declared.faults.CountFault.{CountFault}
use Rattle.snapshot_update.specs.declared.faults.CountFault.TheVariants.{WrongRegistry, Apply}
use Rattle.worker_pool.specs.declared.fault.PoolFault.{PoolFault}
use Rattle.worker_pool.specs.declared.fault.PoolFault.TheVariants.{Refused, GateShut, NoThread, NoMemory}
use Rattle.worker_pool.specs.declared.job.Job.{Job}
use Rattle.worker_pool.specs.Faults.{pool_fault_number}
use Rattle.worker_pool.specs.Works.{IsWorkEnd}
use Rattle.worker_pool.specs.Ends.{IsFirstFault, IsPoolFault}
use Rattle.worker_pool.proofs.Ending.{item_at}

-- a worker's refusal has another number
of_worker : (fault : CountFault) → count_fault_number fault ≢ 29
of_worker WrongRegistry e = omega (arith, e)
of_worker (Apply apply.Exhausted) e = omega (arith, e)
of_worker (Apply (apply.Refused (OutOfGeometry place))) e = omega (arith, e)
of_worker (Apply (apply.Refused (TooLarge place))) e = omega (arith, e)

no_thread : (place : ℕ) (f : PoolFault) → f ≡ NoThread place → pool_fault_number f ≢ 29
no_thread place f e = subst (λ (x : PoolFault). pool_fault_number x ≢ 29) (sym e) (λ n. omega (arith, n))

module _ {N C H G : ℕ} (b : Board N C H G) (lists : List (List Job)) (ws : List (Worker N C H G))
    (long : length lists ≡ length ws) where
  -- no worker ended by a fault of this number
  not_by : (place : ℕ) (jobs : List Job) (w : Worker N C H G) (f : PoolFault) → IsWorkEnd true b place jobs w (Err f)
      → pool_fault_number f ≢ 29
  not_by place jobs w (Refused line number) end e = of_worker end.stopped.fault (sym end.stopped.number_is ∙ e)
  not_by place jobs w (GateShut worker) end e = absurd (let t : true ≡ false = end.stopped.1 in cc)
  not_by place jobs w (NoThread worker) end e = end.stopped
  not_by place jobs w NoMemory end e = end.stopped

  not_first : (f : PoolFault) → IsFirstFault true b lists ws f → pool_fault_number f ≢ 29
  not_first f is = ⊎_elim
      (λ at.
      let few = is.truly.few in let lt = at_below is.ends is.told.place (Err f) at in
      let jobs = item_at lists is.told.place (omega (arith, lt, few, long)) in
      let w = item_at ws is.told.place (omega (arith, lt, few)) in
      not_by is.told.place jobs.0 w.0 f (is.truly.each is.told.place jobs.0 w.0 (Err f) jobs.1 w.1 at))
      (λ t. no_thread is.told.place f t.2)
      is.told.met

  not_told : (f : PoolFault) → IsPoolFault true b lists ws f → pool_fault_number f ≢ 29
  not_told (Refused line number) is = not_first (Refused line number) is
  not_told (GateShut worker) is = not_first (GateShut worker) is
  not_told (NoThread worker) is = not_first (NoThread worker) is
  not_told NoMemory is = λ e. omega (arith, e)

  -- a pool behind a gate that is always open does not tell one that shut
  pub never_shut : (always : Bool) (r : Result (Vec (Worker N C H G) Global) PoolFault) → IfErr r (IsPoolFault always b lists ws)
      → always ≡ true → IfErr r (λ f. pool_fault_number f ≢ 29)
  never_shut always (Ok v) told opened = tt
  never_shut always (Err f) told opened = not_told f (subst (λ (x : Bool). IsPoolFault x b lists ws f) opened told)
