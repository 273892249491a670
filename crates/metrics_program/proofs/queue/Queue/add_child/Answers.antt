use Rattle.std.proofs.Common.{◌∙◌, ap, map, List}
use Rattle.registry_state.specs.declared.handle.Handle.{Handle}
use Rattle.metrics_program.specs.QueuedJobs.{jobs_of}
use Rattle.metrics_program.proofs.QueuedJobs.{lists_kept}
use Rattle.metrics_program.proofs.queue.Queue.add_child.Goals as goal

pub returns-clause-lists : goal.returns-clause-lists
returns-clause-lists c =
    let queue = c.args.self.now in
    ap (λ (children : List Handle). map (jobs_of children) queue.lists.items) c.in-Ok.ensures.items
    ∙ lists_kept queue.children.items c.args.handle queue.lists.items queue.fit
