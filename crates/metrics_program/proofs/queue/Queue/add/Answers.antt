use Rattle.std.proofs.Common.{◌≡◌, ◌<◌, ◌++◌, [], List, length, replicate, slice_index_or, slice_set, sym, ap, ◌∙◌, arith}
use Rattle.std.proofs.Common.{ℕ, All, Result, Ok, Err, OnOk, OnErr, subst}
use Rattle.std.proofs.lemmas.List.Elements.{All-append, All-replicate, All-set}
use Rattle.registry_state.specs.declared.handle.Handle.{Handle}
use Rattle.std.proofs.lemmas.List.{get_or-map, length-map, map-set}
use Rattle.std.proofs.Math.Seq.{map-set_same}
use Rattle.std.specs.List.{filter_map}
use Rattle.worker_pool.specs.declared.job.Job.{Job}
use Rattle.metrics_program.specs.QueuedJobs.{job_of, jobs_of, Fits, ListFits}
use Rattle.metrics_program.specs.Waiting.{lists_in}
use Rattle.metrics_program.proofs.QueuedJobs.{fits_there, made_more}
use Rattle.metrics_program.specs.declared.queued_job.QueuedJob.{QueuedJob}
use Rattle.metrics_program.proofs.queue.Queue.add.Goals as goal

-- the list fits still, whether it has grown or not
added_fit : {E : Type 0} (children : List Handle) (r : Result Unit E) (old new : List QueuedJob) (times : ℕ) (entry : QueuedJob)
    → OnOk r (new ≡ old ++ replicate times entry) → OnErr r (new ≡ old) → All (Fits children) old → Fits children entry
    → All (Fits children) new
added_fit children (Ok done) old new times entry added same all fits =
    subst (λ (l : List QueuedJob). All (Fits children) l) (sym added)
    (All-append (Fits children) old (replicate times entry) all (All-replicate (Fits children) times entry fits))
added_fit children (Err none) old new times entry added same all fits =
    subst (λ (l : List QueuedJob). All (Fits children) l) (sym same) all

pub invariant_of-self : goal.invariant_of-self
invariant_of-self c =
    let queue = c.args.self.now in
    let children = queue.children.items in
    let lists = queue.lists.items in
    let worker = c.args.worker in
    let list = c.index_mut.result.now in
    let new = c.add_times.new.list in
    let below : worker < length lists = let lt = c.requires.worker in let long = length-map lists (jobs_of children) in
    omega (arith, lt, long) in
    let fits = added_fit children c.add_times.result list.items new.items c.args.times c.args.entry.now c.add_times.ensures.added
    c.add_times.ensures.unchanged (fits_there children lists queue.fit worker list below c.index_mut.ensures.value)
    c.requires.fits in
    record { fit = All-set (ListFits children) lists worker new fits queue.fit }

pub returns-in-Ok-clause-added : goal.returns-in-Ok-clause-added
returns-in-Ok-clause-added c = λ job is.
    let queue = c.args.self.now in
    let children = queue.children.items in
    let lists = queue.lists.items in
    let worker = c.args.worker in
    let list = c.index_mut.result.now in
    let below : worker < length lists = let lt = c.requires.worker in let long = length-map lists (jobs_of children) in
    omega (arith, lt, long) in
    let was : jobs_of children list ≡ slice_index_or (lists_in queue) worker [] =
    ap (jobs_of children) c.index_mut.ensures.value ∙ sym (get_or-map (jobs_of children) lists worker list [] below) in
    map-set (jobs_of children) lists worker c.add_times.new.list
    ∙ ap (slice_set (lists_in queue) worker) (ap (filter_map (job_of children)) c.in-Ok.ensures.added
    ∙ made_more (job_of children) list.items c.args.times c.args.entry.now job is
    ∙ ap (λ (l : List Job). l ++ replicate c.args.times job) was)

pub returns-in-Err-clause-unchanged : goal.returns-in-Err-clause-unchanged
returns-in-Err-clause-unchanged c =
    let queue = c.args.self.now in
    let children = queue.children.items in
    map-set_same (jobs_of children) queue.lists.items c.args.worker c.add_times.new.list c.index_mut.result.now
    (ap (filter_map (job_of children)) c.in-Err.ensures.unchanged ∙ ap (jobs_of children) c.index_mut.ensures.value)
