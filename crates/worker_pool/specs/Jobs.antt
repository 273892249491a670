-- What a job asks for.
use Rattle.std.specs.Prelude.{ℕ, List, [], ◌∷◌, map, slice_index_or}
use Rattle.std.specs.declared.vec.Vec.{Vec}
use Rattle.std.specs.declared.alloc.Global.{Global}
use Rattle.ledger_core.specs.declared.op.Op.{Op}
use Rattle.snapshot_update.specs.JobOps.{op_of}
use Rattle.worker_pool.specs.declared.job.Job.{Job}

-- the list that a job publishes: its one operation
abbrev pub list_of_job : Job → List Op
list_of_job job = op_of job.what ∷ []

-- the jobs in a vector
abbrev pub jobs_in : Vec Job Global → List Job
jobs_in list = list.items

-- the jobs in each of several vectors
abbrev pub lists_in : List (Vec Job Global) → List (List Job)
lists_in lists = map jobs_in lists

-- the list of the worker at this place, of none where there is no such worker
abbrev pub jobs_at : List (List Job) → (worker : ℕ) → List Job
jobs_at lists worker = slice_index_or lists worker []
