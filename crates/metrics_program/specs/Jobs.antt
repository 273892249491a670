-- The jobs that wait for `go`.
use Rattle.std.specs.Prelude.{ℕ, List, replicate, ◌++◌, slice_index_or, slice_set, Option, Some, None, []}
use Rattle.registry_state.specs.declared.handle.Handle.{Handle}
use Rattle.script_lines.specs.declared.line.Counting.{Counting}
use Rattle.script_lines.specs.declared.line.Counting.TheVariants.{Inc, Obs, Up, Down}
use Rattle.worker_pool.specs.declared.job.Job.{Job}
use Rattle.snapshot_update.specs.declared.job_op.JobOp.{JobOp}
use Rattle.snapshot_update.specs.declared.job_op.JobOp.TheVariants as job

-- what counts `by` in a child of this handle, if its kind is that
abbrev pub job_for : Counting → (by : ℕ) → Handle → Option JobOp
job_for Inc by (Handle.Counter counter) = Some (job.Inc counter by)
job_for Inc by (Handle.Histogram histogram) = None
job_for Inc by (Handle.Gauge gauge) = None
job_for Obs by (Handle.Counter counter) = None
job_for Obs by (Handle.Histogram histogram) = Some (job.Observe histogram by)
job_for Obs by (Handle.Gauge gauge) = None
job_for Up by (Handle.Counter counter) = None
job_for Up by (Handle.Histogram histogram) = None
job_for Up by (Handle.Gauge gauge) = Some (job.Up gauge by)
job_for Down by (Handle.Counter counter) = None
job_for Down by (Handle.Histogram histogram) = None
job_for Down by (Handle.Gauge gauge) = Some (job.Down gauge by)

-- with this job behind the list of a worker, so many times
abbrev pub with_jobs : (worker : ℕ) → Job → (times : ℕ) → List (List Job) → List (List Job)
with_jobs worker job times lists = slice_set lists worker (slice_index_or lists worker [] ++ replicate times job)
