use Rattle.std.proofs.Common.{rules, ◌<◌, List, length, sym, ap, ◌∙◌, subst, arith}
use Rattle.register_rule.proofs.Words.{there}
use Rattle.worker_pool.specs.declared.promise.Does.{Does}
use Rattle.worker_pool.specs.Jobs.{jobs_at}
use Rattle.worker_pool.specs.Pledges.{ArePledged}
use Rattle.worker_pool.proofs.Joined.{Handle}
use Rattle.worker_pool.proofs.Places.{first_left}
use Rattle.worker_pool.proofs.Pledging.{pledged_more}
use Rattle.worker_pool.proofs.starting.start_all.Goals as goal

pub loop-worker-preserved : goal.loop-worker-preserved
loop-worker-preserved g c =
    let inv = c.loop-worker.invariant in let step = c.in-Some.ensures.steps in let place = c.loop-worker.place in
    let lists_of = g.Q.JobLists.lists in
    let ws = c.args.workers.items in let lists = lists_of c.args.lists.now in let pushed = c.in-Ok-push.ensures in
    let D : Type 0 = Does g.row.Q.Denot g.row.N g.row.C g.row.H g.row.G in
    let next = first_left place ws _ c.in-Some.worker (sym inv.rest ∙ step.0) in
    let shorter = step.1 in let count = inv.count in
    let lt : place < length lists = search rules in
    let ok = c.in-Ok.ensures.ok in
    record {
      rest = next.1;
      count = omega (arith, shorter, count);
      many = search rules;
      room = search rules;
      pledged = subst (λ (l : List (Handle g.row.Q.Denot g.row.N g.row.C g.row.H g.row.G)). ArePledged lists_of
          g.W.Way.ALWAYS_OPEN c.args.board.now lists ws l) (sym pushed.items)
          (pledged_more lists_of g.W.Way.ALWAYS_OPEN c.args.board.now lists ws c.loop-worker.threads.items c.in-Ok.thread place
          (jobs_at lists place) c.in-Some.worker inv.many
          (there lists place _ lt) next.0
          (record {
            board = ap (λ (p : D). p.board.now) ok;
            always_open_is = ap (λ (p : D). p.always_open) ok ∙ c.always_open.ensures;
            place_is = ap (λ (p : D). p.place) ok;
            jobs_are = ap (λ (p : D). jobs_at (lists_of p.lists.now) p.place) ok;
            worker = ap (λ (p : D). p.was.value) ok ∙ c.of.ensures;
          })
          inv.pledged);
    }
