use Rattle.std.proofs.Common.{◌≡◌, ◌∷◌, [], All, ap, arith, length, length-append, subst, sym, ◌∙◌}
use Rattle.std.proofs.lemmas.List.Elements.{All-push}
use Rattle.std.specs.declared.vec.Vec.{Vec}
use Rattle.std.specs.declared.alloc.Global.{Global}
use Rattle.metrics_program.specs.declared.queued_job.QueuedJob.{QueuedJob}
use Rattle.metrics_program.proofs.queue.no_lists.Goals as goal

pub loop-worker-preserved : goal.loop-worker-preserved
loop-worker-preserved c =
    let lists = c.loop-worker.lists.items in
    let items = c.in_ok-push.ensures.items in
    let so_many = c.loop-worker.invariant.0 in
    let longer = ap length items ∙ length-append lists (c.new.result ∷ []) in
    let is_empty : Vec QueuedJob Global → Type 0 = λ list. list.items ≡ [] in (
      omega (arith, longer, so_many),
      subst (All is_empty) (sym items) (All-push is_empty lists c.new.result c.loop-worker.invariant.1 c.new.ensures.items),
    )
