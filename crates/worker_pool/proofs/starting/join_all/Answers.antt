use Rattle.std.proofs.Common.{rules, ◌≡◌, List, length, sym, ap, subst, arith}
use Rattle.std.proofs.lemmas.List.{nil_from_length}
use Rattle.std.specs.Vec.Iter.{into_iter_items}
use Rattle.worker_pool.proofs.Joined.{End, Handle, HaveJoined, none_joined, joined_more}
use Rattle.worker_pool.proofs.starting.join_all.Goals as goal

pub loop-thread-init : goal.loop-thread-init
loop-thread-init g c =
    let began = c.into_iter-thread-iterator.ensures.into_iter_gives in let hs = c.args.threads.items in
    let empty = c.requires.room.0 in
    let zero : length c.args.ends.items ≡ 0 = search rules in let none = nil_from_length c.args.ends.items zero in
    record {
      joined = subst (λ (l : List (Handle g.row.Q.Denot g.row.N g.row.C g.row.H g.row.G)). HaveJoined g.Q.JobLists.lists hs l
          c.args.ends.items) (sym began.0)
          (subst (λ (l : List (End g.row.N g.row.C g.row.H g.row.G)). HaveJoined g.Q.JobLists.lists hs hs l) (sym none)
          (none_joined g.Q.JobLists.lists hs));
      count = search rules;
      room = search rules;
    }

pub loop-thread-preserved : goal.loop-thread-preserved
loop-thread-preserved g c =
    let inv = c.loop-thread.invariant in let step = c.in-Some.ensures.steps in let hs = c.args.threads.items in
    let rest = into_iter_items c.next.new.self in
    let shorter = step.1 in let long = ap length step.0 in let count = inv.count in
    record {
      joined = subst (λ (l : List (End g.row.N g.row.C g.row.H g.row.G)). HaveJoined g.Q.JobLists.lists hs rest l)
          (sym c.in-Ok.ensures.items)
          (joined_more g.Q.JobLists.lists hs rest c.in-Some.thread c.loop-thread.ends.items c.join.result
          (subst (λ (l : List (Handle g.row.Q.Denot g.row.N g.row.C g.row.H g.row.G)). HaveJoined g.Q.JobLists.lists hs l
          c.loop-thread.ends.items) step.0 inv.joined) c.join.ensures);
      count = omega (arith, shorter, long, count);
      room = search rules;
    }
