use Rattle.std.proofs.Common.{◌≡◌, [], All, take}
use Rattle.std.specs.declared.vec.Vec.{Vec}
use Rattle.std.specs.declared.alloc.Global.{Global}
use Rattle.metrics_program.specs.declared.queued_job.QueuedJob.{QueuedJob}
use Rattle.metrics_program.proofs.queue.drop_entries.Given as goal

-- the lists so far are empty
abbrev pub invariant-loop-list : goal.invariant-loop-list
invariant-loop-list l = All (λ (list : Vec QueuedJob Global). list.items ≡ []) (take l.list-index l.lists)
