-- The entries of a queue, and the jobs that they make.
use Rattle.std.specs.Prelude.{◌≡◌, List, All, Option, option_and_then, option_map, is_some, slice_get, true}
use Rattle.std.specs.List.{filter_map}
use Rattle.std.specs.declared.vec.Vec.{Vec}
use Rattle.std.specs.declared.alloc.Global.{Global}
use Rattle.registry_state.specs.declared.handle.Handle.{Handle}
use Rattle.worker_pool.specs.declared.job.Job.{Job}
use Rattle.snapshot_update.specs.declared.job_op.JobOp.{JobOp}
use Rattle.metrics_program.specs.Jobs.{job_for}
use Rattle.metrics_program.specs.declared.queued_job.QueuedJob.{QueuedJob}

-- the job of an entry's line that counts this
abbrev pub on_line : QueuedJob → JobOp → Job
on_line entry what = record { line = entry.line; what = what }

-- the job that an entry makes of this child's handle, if there is such a child, of the kind that it counts
abbrev pub job_with : QueuedJob → Option Handle → Option Job
job_with entry child = option_map (on_line entry) (option_and_then (job_for entry.what entry.by) child)

-- the job that an entry makes of the child of its number
abbrev pub job_of : List Handle → QueuedJob → Option Job
job_of children entry = job_with entry (slice_get children entry.child)

-- the entry makes a job
abbrev pub Fits : List Handle → QueuedJob → Type 0
Fits children entry = is_some (job_of children entry) ≡ true

-- each entry of a worker's list does
abbrev pub ListFits : List Handle → Vec QueuedJob Global → Type 0
ListFits children list = All (Fits children) list.items

-- the jobs that a worker's list makes
abbrev pub jobs_of : List Handle → Vec QueuedJob Global → List Job
jobs_of children list = filter_map (job_of children) list.items
