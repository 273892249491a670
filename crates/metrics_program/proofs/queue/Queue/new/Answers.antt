use Rattle.std.proofs.Common.{ℕ, [], ap, replicate, ◌∙◌}
use Rattle.metrics_program.proofs.QueuedJobs.{none_left}
use Rattle.metrics_program.proofs.queue.Queue.new.Goals as goal

pub returns-clause-lists : goal.returns-clause-lists
returns-clause-lists c =
    let made = c.in_ok-lists.ensures in
    none_left c.new.result.items c.in_ok-lists.lists.items made.none ∙ ap (λ (n : ℕ). replicate n []) made.all
