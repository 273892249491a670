use Rattle.std.proofs.Common.{rules, ◌≡◌, ℕ, List, ◌∷◌, length, None, ◌<◌, sym, ap, ◌∙◌, subst, arith}
use Rattle.std.proofs.lemmas.List.{nil_from_length}
use Rattle.std.specs.Vec.Iter.{into_iter_items}
use Rattle.snapshot_update.specs.declared.worker.Worker.{Worker}
use Rattle.worker_pool.specs.declared.fault.PoolFault.TheVariants.{NoThread}
use Rattle.worker_pool.specs.Faults.{IsEarlier}
use Rattle.worker_pool.proofs.Joined.{End}
use Rattle.worker_pool.proofs.Gathered.{AreGathered, none_gathered, gathered_ok, gathered_err, told_of_fewer}
use Rattle.worker_pool.proofs.outcome.outcome.Goals as goal

pub loop-end-init : goal.loop-end-init
loop-end-init g c =
    let began = c.into_iter-end-iterator.ensures.into_iter_gives in let ends = c.args.ends.items in
    let empty = c.requires.room.0 in
    let zero : length c.args.done.items ≡ 0 = search rules in let none = nil_from_length c.args.done.items zero in
    record {
      gathered = subst (λ (l : List (End g.row.N g.row.C g.row.H g.row.G)). AreGathered ends l c.args.done.items None)
          (sym began.0)
          (subst (λ (l : List (Worker g.row.N g.row.C g.row.H g.row.G)). AreGathered ends ends l None) (sym none)
          (none_gathered ends));
      count = search rules;
      room = search rules;
    }

pub loop-end-preserved-in-Ok-push : goal.loop-end-preserved-in-Ok-push
loop-end-preserved-in-Ok-push g c =
    let inv = c.loop-end.invariant in let step = c.in-Some.ensures.steps in let ends = c.args.ends.items in
    let rest = into_iter_items c.next.new.self in
    let shorter = step.1 in let long = ap length step.0 in let count = inv.count in let room = inv.room in
    record {
      gathered = subst (λ (l : List (Worker g.row.N g.row.C g.row.H g.row.G)). AreGathered ends rest l c.loop-end.told)
          (sym c.in-Ok-push.ensures.items)
          (gathered_ok ends rest c.loop-end.done.items c.loop-end.told c.in-Ok.worker
          (subst (λ (r : End g.row.N g.row.C g.row.H g.row.G). AreGathered ends (r ∷ rest) c.loop-end.done.items c.loop-end.told)
          c.in-Ok.is
          (subst (λ (l : List (End g.row.N g.row.C g.row.H g.row.G)). AreGathered ends l c.loop-end.done.items c.loop-end.told)
          step.0 inv.gathered)));
      count = omega (arith, shorter, long, count);
      room = search rules;
    }

pub loop-end-preserved : goal.loop-end-preserved
loop-end-preserved g c =
    let inv = c.loop-end.invariant in let step = c.in-Some.ensures.steps in let ends = c.args.ends.items in
    let rest = into_iter_items c.next.new.self in
    let shorter = step.1 in let long = ap length step.0 in let count = inv.count in let room = inv.room in
    record {
      gathered = gathered_err ends rest c.loop-end.done.items c.loop-end.told c.in-Err.fault c.earlier.result
          (subst (λ (r : End g.row.N g.row.C g.row.H g.row.G). AreGathered ends (r ∷ rest) c.loop-end.done.items c.loop-end.told)
          c.in-Err.is
          (subst (λ (l : List (End g.row.N g.row.C g.row.H g.row.G)). AreGathered ends l c.loop-end.done.items c.loop-end.told)
          step.0 inv.gathered)) c.earlier.ensures;
      count = omega (arith, shorter, long, count);
      room = omega (arith, shorter, room);
    }

pub returns-then-begun-workers-clause-told : goal.returns-then-begun-workers-clause-told
returns-then-begun-workers-clause-told g c =
    let ends = c.args.ends.items in
    let begun : c.len-begun.result ≡ length ends = search rules in
    let fewer : length ends < c.args.workers = search rules in
    told_of_fewer ends c.loop-end.done.items c.args.workers c.loop-end.told c.earlier-then-begun-workers.result fewer
    (subst (λ (l : List (End g.row.N g.row.C g.row.H g.row.G)). AreGathered ends l c.loop-end.done.items c.loop-end.told)
    (nil_from_length (into_iter_items c.loop-end.end-iterator) (sym c.loop-end.invariant.count ∙ c.in-None.ensures.steps.0))
    c.loop-end.invariant.gathered)
    (subst (λ (n : ℕ). IsEarlier c.loop-end.told (NoThread n) c.earlier-then-begun-workers.result) begun
    c.earlier-then-begun-workers.ensures)
