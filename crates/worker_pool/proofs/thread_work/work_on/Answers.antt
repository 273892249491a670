use Rattle.std.proofs.Common.{rules, ◌<◌, length, refl, sym, subst}
use Rattle.snapshot_update.specs.declared.worker.Worker.{Worker}
use Rattle.worker_pool.specs.Jobs.{jobs_at}
use Rattle.worker_pool.specs.Works.{WasRefused}
use Rattle.worker_pool.proofs.Places.{item_is}
use Rattle.worker_pool.proofs.Working.{did_more, not_always}
use Rattle.worker_pool.proofs.thread_work.work_on.Goals as goal

pub returns-then-not-opens-clause-stopped : goal.returns-then-not-opens-clause-stopped
returns-then-not-opens-clause-stopped g c =
    let jobs = jobs_at (g.Q.JobLists.lists c.args.lists.now) c.args.place in
    let lt : c.loop-next.next < length jobs = search rules in (
      refl,
      not_always g.W.Way.ALWAYS_OPEN c.opens.result c.opens.ensures (search rules),
      record { k = c.loop-next.next; more = lt; did = c.loop-next.invariant },
    )

pub returns-in-Err-clause-stopped : goal.returns-in-Err-clause-stopped
returns-in-Err-clause-stopped g c =
    let k = c.loop-next.next in let jobs = jobs_at (g.Q.JobLists.lists c.args.lists.now) c.args.place in
    let job = c.job-job.result in
    subst (λ (v : Worker g.row.N g.row.C g.row.H g.row.G). WasRefused c.args.board.now jobs job.line c.number.result
    c.args.worker.now v)
    (sym c.in-Err.ensures.unchanged)
    (record {
      k = k;
      job = job;
      at = item_is jobs k job c.job-job.ensures;
      line_is = refl;
      did = c.loop-next.invariant;
      fault = c.in-Err.fault;
      refused = c.in-Err.ensures.fault;
      number_is = c.number.ensures;
    })

pub loop-next-preserved : goal.loop-next-preserved
loop-next-preserved g c =
    let k = c.loop-next.next in let jobs = jobs_at (g.Q.JobLists.lists c.args.lists.now) c.args.place in
    let job = c.job-job.result in
    did_more c.args.board.now jobs c.args.worker.now c.loop-next.worker c.run.new.worker k job (item_is jobs k job
    c.job-job.ensures)
    c.loop-next.invariant
    c.in_default.ensures.of_board c.in_default.ensures.index c.in_default.ensures.counted
