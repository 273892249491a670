-- The workers of a script and their lists of jobs.
use Rattle.std.proofs.Common.{◌≡◌, ℕ, suc, List, [], ◌∷◌, Some, length, map, refl, subst, ap, ◌∙◌, arith}
use mathlib.Core.Option.{some}
use lib.ListN.{get_elem?}
use Rattle.register_rule.specs.declared.board.Board.{Board}
use Rattle.snapshot_update.specs.declared.worker.Worker.{Worker}
use Rattle.snapshot_update.specs.Workers.{index_of}
use Rattle.worker_pool.specs.declared.job.Job.{Job}
use Rattle.worker_pool.specs.Ends.{DidAll}
use Rattle.std.specs.Prelude.{option_and_then, slice_get}
use Rattle.registry_state.specs.declared.handle.Handle.{Handle}
use Rattle.snapshot_update.specs.declared.job_op.JobOp.{JobOp}
use Rattle.metrics_program.specs.declared.state.Count.{Count}
use Rattle.metrics_program.specs.QueuedJobs.{job_of}
use Rattle.metrics_program.specs.Jobs.{job_for}
use Rattle.metrics_program.specs.declared.queued_job.QueuedJob.{QueuedJob}
use Rattle.metrics_program.proofs.QueuedJobs.{job_parts}
use Rattle.metrics_program.specs.State.{job_in}

abbrev Lists : Type 0
Lists = List (List Job)

module _ {N C H G : ℕ} where
  abbrev EachSame : Lists → (ws vs : List (Worker N C H G)) → Type 0
  EachSame lists ws vs = (i : ℕ) (jobs : List Job) (w v : Worker N C H G) → get_elem? lists i ≡ some jobs
      → get_elem? ws i ≡ some w → get_elem? vs i ≡ some v
      → index_of v ≡ index_of w

  indexes_kept : (lists : Lists) (ws vs : List (Worker N C H G)) → length lists ≡ length ws → length vs ≡ length ws
      → EachSame lists ws vs → map index_of vs ≡ map index_of ws
  indexes_kept lists [] [] few all each = refl
  indexes_kept lists [] (v ∷ vs) few all each = absurd (omega (arith, all))
  indexes_kept lists (w ∷ ws) [] few all each = absurd (omega (arith, all))
  indexes_kept [] (w ∷ ws) (v ∷ vs) few all each = absurd (omega (arith, few))
  indexes_kept (jobs ∷ lists) (w ∷ ws) (v ∷ vs) few all each =
      let first : index_of v ≡ index_of w = each 0 jobs w v refl refl refl in
      let rest : map index_of vs ≡ map index_of ws = indexes_kept lists ws vs (omega (arith, few)) (omega (arith, all))
      (λ i js a b. each (suc i) js a b) in
      ap (λ (i : ℕ). i ∷ map index_of vs) first ∙ ap (λ (is : List ℕ). index_of w ∷ is) rest

  -- a pool hands its workers back in their old order
  pub same_workers : (b : Board N C H G) (lists : Lists) (ws vs : List (Worker N C H G)) → length lists ≡ length ws
      → DidAll b lists ws vs → map index_of vs ≡ map index_of ws
  same_workers b lists ws vs few did = indexes_kept lists ws vs few did.all
      (λ i jobs w v a b c. (did.each i jobs w v a b c).index)

-- what a line counts, by the job that its entry makes
pub counted : (children : List Handle) (line number : ℕ) (count : Count) (job : Job) → number ≡ count.child
    → job_of children (record { line = line; child = number; by = count.by; what = count.what }) ≡ Some job
    → (what : JobOp) × (job_in children count ≡ Some what) × (job ≡ record { line = line; what = what })
counted children line number count job is makes =
    let entry : QueuedJob = record { line = line; child = number; by = count.by; what = count.what } in
    let parts = job_parts entry (option_and_then (job_for count.what count.by) (slice_get children number)) job makes in (
      parts.0,
      subst (λ (n : ℕ). option_and_then (job_for count.what count.by) (slice_get children n) ≡ Some parts.0) is parts.1,
      parts.2,
    )
