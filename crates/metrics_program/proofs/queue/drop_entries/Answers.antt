use Rattle.std.proofs.Common.{◌≡◌, ◌<◌, [], All, length, take, sym, subst, arith, rules}
use Rattle.std.proofs.lemmas.List.{take_more_set, take_all}
use Rattle.std.proofs.lemmas.List.Elements.{All-push}
use Rattle.std.specs.declared.vec.Vec.{Vec}
use Rattle.std.specs.declared.alloc.Global.{Global}
use Rattle.metrics_program.specs.declared.queued_job.QueuedJob.{QueuedJob}
use Rattle.metrics_program.proofs.queue.drop_entries.Goals as goal

pub loop-list-preserved : goal.loop-list-preserved
loop-list-preserved c =
    let Empty : Vec QueuedJob Global → Type 0 = λ list. list.items ≡ [] in
    let within : c.loop-list.list-index < length c.loop-list.lists = search rules in
    subst (All Empty) (sym (take_more_set c.loop-list.lists c.loop-list.list-index c.clear.new.self within))
    (All-push Empty (take c.loop-list.list-index c.loop-list.lists) c.clear.new.self c.loop-list.invariant c.clear.ensures.items)

pub returns-clause-none : goal.returns-clause-none
returns-clause-none c =
    subst (All (λ (list : Vec QueuedJob Global). list.items ≡ []))
    (take_all c.loop-list.list-index c.loop-list.lists (omega arith)) c.loop-list.invariant
