use Rattle.worker_pool.proofs.Ending.{all_kept, all_told}
use Rattle.worker_pool.proofs.starting.finish.Goals as goal

pub returns-clause-all : goal.returns-clause-all
returns-clause-all g c = all_kept g.Q.JobLists.lists c.args.threads.items c.args.workers c.join_all-ends.result.items
    c.outcome.result
    c.join_all-ends.ensures c.outcome.ensures.all

pub returns-clause-told : goal.returns-clause-told
returns-clause-told g c = all_told g.Q.JobLists.lists c.args.threads.items c.args.workers c.join_all-ends.result.items
    c.outcome.result
    c.join_all-ends.ensures c.outcome.ensures.told
