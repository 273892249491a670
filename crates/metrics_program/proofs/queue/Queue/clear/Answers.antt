use Rattle.std.proofs.Common.{ℕ, [], ap, length, map, replicate, sym, ◌∙◌}
use Rattle.std.proofs.lemmas.List.{length-map, with_items_is}
use Rattle.metrics_program.specs.QueuedJobs.{jobs_of}
use Rattle.metrics_program.proofs.QueuedJobs.{none_left}
use Rattle.metrics_program.proofs.queue.Queue.clear.Goals as goal

pub returns-clause-none : goal.returns-clause-none
returns-clause-none c =
    let queue = c.args.self.now in
    let jobs = jobs_of queue.children.items in
    let lists = c.drop_entries.new.lists in
    ap (map jobs) (with_items_is queue.lists lists (c.drop_entries.ensures.all ∙ c.deref_mut.ensures.len))
    ∙ none_left queue.children.items lists c.drop_entries.ensures.none
    ∙ ap (λ (n : ℕ). replicate n []) (c.drop_entries.ensures.all ∙ ap length c.deref_mut.ensures.value
    ∙ sym (length-map queue.lists.items jobs))
