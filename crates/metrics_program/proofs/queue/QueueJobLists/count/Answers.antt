use Rattle.std.proofs.Common.{rules, ◌≡◌, ◌<◌, length, sym, ◌∙◌, arith}
use Rattle.std.proofs.lemmas.List.{length-map}
use Rattle.metrics_program.specs.QueuedJobs.{jobs_of}
use Rattle.metrics_program.proofs.QueuedJobs.{as_many_there}
use Rattle.metrics_program.proofs.queue.QueueJobLists.count.Goals as goal

pub returns : goal.returns
returns c =
    let queue = c.args.self.now in
    let lists = queue.lists.items in
    let list = c.index.result.now in
    let below : c.args.worker < length lists = let lt = c.requires in
    let long = length-map lists (jobs_of queue.children.items) in omega (arith, lt, long) in
    let many : c.len.result ≡ length list.items = search rules in
    many ∙ sym (as_many_there queue.children.items lists queue.fit c.args.worker list below c.index.ensures)
