-- The jobs that wait for `go`.
use Rattle.std.specs.Prelude.{List, map}
use Rattle.worker_pool.specs.declared.job.Job.{Job}
use Rattle.metrics_program.specs.QueuedJobs.{jobs_of}
use Rattle.metrics_program.specs.declared.queue.Queue.{Queue}

-- the jobs that wait, a list for each worker
abbrev pub lists_in : Queue → List (List Job)
lists_in queue = map (jobs_of queue.children.items) queue.lists.items
