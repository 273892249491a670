use Rattle.std.proofs.Common.{◌≡◌, refl, inr, length, ap, sym, ◌∙◌}
use Rattle.std.specs.Prelude.{Some}
use Rattle.std.proofs.Math.ListN.{length-set}
use Rattle.worker_pool.specs.declared.job.Job.{Job}
use Rattle.metrics_program.specs.QueuedJobs.{job_of}
use Rattle.metrics_program.specs.Jobs.{with_jobs}
use Rattle.metrics_program.specs.Waiting.{lists_in}
use Rattle.metrics_program.specs.declared.queued_job.QueuedJob.{QueuedJob}
use Rattle.metrics_program.proofs.Crew.{counted}
use Rattle.metrics_program.proofs.QueuedJobs.{value_of}
use Rattle.metrics_program.proofs.state.State.enqueue.Goals as goal

pub returns-in-Ok-add-clause-ready : goal.returns-in-Ok-add-clause-ready
returns-in-Ok-add-clause-ready c =
    let count = c.args.count in
    let entry : QueuedJob = record { line = c.args.line; child = c.in-Ok.child; by = count.by; what = count.what } in
    let some = value_of c.job.result c.if-is_none.ensures in
    let makes : job_of c.args.self.now.queue.children.items entry ≡ Some some.0 =
    ap (λ l. job_of l entry) (sym c.deref.ensures.value) ∙ sym c.job.ensures ∙ some.1 in
    let queue = c.in-Ok-add.ensures.added some.0 makes in
    let ready = c.requires.ready in
    record {
      workers = ready.workers;
      all = ready.all;
      scans = ready.scans;
      scraper = ready.scraper;
      id = ready.id;
      settler = ready.settler;
      lists = ap length queue ∙ simp length-set ready.lists;
    }

pub returns-in-Ok-add-clause-queued : goal.returns-in-Ok-add-clause-queued
returns-in-Ok-add-clause-queued c =
    let count = c.args.count in
    let children = c.args.self.now.queue.children.items in
    let lists = lists_in c.args.self.now.queue in
    let entry : QueuedJob = record { line = c.args.line; child = c.in-Ok.child; by = count.by; what = count.what } in
    let some = value_of c.job.result c.if-is_none.ensures in
    let makes : job_of children entry ≡ Some some.0 = ap (λ l. job_of l entry) (sym c.deref.ensures.value) ∙ sym c.job.ensures
    ∙ some.1 in
    let parts = counted children c.args.line c.in-Ok.child count some.0 c.in-Ok.ensures.1 makes in
    record {
      what = parts.0;
      counts = parts.1;
      queue = c.in-Ok-add.ensures.added some.0 makes ∙ ap (λ (job : Job). with_jobs count.worker job count.times lists) parts.2;
      board = refl;
      registry = refl;
      workers = refl;
      settler = refl;
      children = c.in-Ok-add.ensures.children;
    }

pub returns-in-Err-clause-fault : goal.returns-in-Err-clause-fault
returns-in-Err-clause-fault c =
    let count = c.args.count in
    let children = c.args.self.now.queue.children.items in
    let entry : QueuedJob = record { line = c.args.line; child = c.in-Ok.child; by = count.by; what = count.what } in
    let some = value_of c.job.result c.if-is_none.ensures in
    let makes : job_of children entry ≡ Some some.0 = ap (λ l. job_of l entry) (sym c.deref.ensures.value) ∙ sym c.job.ensures
    ∙ some.1 in
    let counts = (counted children c.args.line c.in-Ok.child count some.0 c.in-Ok.ensures.1 makes).1 in
    inr (refl, λ none. absurd (cc (counts, none)))
