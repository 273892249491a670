use Rattle.std.proofs.Common.{rules, ◌≡◌, ◌<◌, length, sym, ap, subst, ◌∙◌, arith}
use Rattle.std.specs.Prelude.{Some, is_some, true}
use Rattle.std.proofs.lemmas.List.{length-map}
use Rattle.std.proofs.lemmas.List.Elements.{All-get_or}
use Rattle.metrics_program.specs.QueuedJobs.{Fits, job_of, jobs_of}
use Rattle.metrics_program.proofs.QueuedJobs.{as_many_there, fits_there, job_there}
use Rattle.metrics_program.proofs.queue.QueueJobLists.job.Goals as goal

pub index-requires-2 : goal.index-requires-2
index-requires-2 c =
    let queue = c.args.self.now in
    let lists = queue.lists.items in
    let list = c.index.result.now in
    let below : c.args.worker < length lists = let lt = c.requires.worker in
    let long = length-map lists (jobs_of queue.children.items) in omega (arith, lt, long) in
    let many = as_many_there queue.children.items lists queue.fit c.args.worker list below c.index.ensures in
    let place = c.requires.place in
    let within : c.args.place < length list.items = omega (arith, place, many) in
    search rules

pub unreachable-requires : goal.unreachable-requires
unreachable-requires c =
    let queue = c.args.self.now in
    let children = queue.children.items in
    let lists = queue.lists.items in
    let list = c.index.result.now in
    let entry = c.index-2.result.now in
    let below : c.args.worker < length lists = let lt = c.requires.worker in let long = length-map lists (jobs_of children) in
    omega (arith, lt, long) in
    let many = as_many_there children lists queue.fit c.args.worker list below c.index.ensures in
    let within : c.args.place < length list.items = let place = c.requires.place in omega (arith, place, many) in
    let fits = fits_there children lists queue.fit c.args.worker list below c.index.ensures in
    let here : Fits children entry = subst (Fits children) (sym c.index-2.ensures)
    (All-get_or (Fits children) list.items c.args.place entry within fits) in
    let made : job_of c.deref.result.now entry ≡ job_of children entry = ap (λ l. job_of l entry) c.deref.ensures.value in
    let some : is_some c.job.result ≡ true = ap is_some (c.job.ensures ∙ made) ∙ here in
    let none = ap is_some c.in_default.is in
    absurd (cc (some, none))

pub returns : goal.returns
returns c =
    let queue = c.args.self.now in
    let children = queue.children.items in
    let lists = queue.lists.items in
    let list = c.index.result.now in
    let entry = c.index-2.result.now in
    let below : c.args.worker < length lists = let lt = c.requires.worker in let long = length-map lists (jobs_of children) in
    omega (arith, lt, long) in
    let many = as_many_there children lists queue.fit c.args.worker list below c.index.ensures in
    let within : c.args.place < length list.items = let place = c.requires.place in omega (arith, place, many) in
    let made : job_of children entry ≡ Some c.in-Some.job = ap (λ l. job_of l entry) (sym c.deref.ensures.value)
    ∙ sym c.job.ensures ∙ c.in-Some.is in
    job_there children lists queue.fit c.args.worker list below c.index.ensures c.args.place entry c.in-Some.job within
    c.index-2.ensures made
