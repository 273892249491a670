use Rattle.std.proofs.Common.{◌≡◌, [], All, length}
use Rattle.std.specs.declared.vec.Vec.{Vec}
use Rattle.std.specs.declared.alloc.Global.{Global}
use Rattle.metrics_program.specs.declared.queued_job.QueuedJob.{QueuedJob}
use Rattle.metrics_program.proofs.queue.no_lists.Given as goal

-- so many lists are there, and all are empty
abbrev pub invariant-loop-worker : goal.invariant-loop-worker
invariant-loop-worker l = (length l.lists.items ≡ l._worker)
    × All (λ (list : Vec QueuedJob Global). list.items ≡ []) l.lists.items
