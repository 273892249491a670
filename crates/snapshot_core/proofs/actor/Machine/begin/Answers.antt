use Rattle.std.proofs.Common.{◌≡◌, length, map, rules, arith}
use Rattle.snapshot_core.specs.Turns.{answered_of, published_of}
use Rattle.snapshot_core.specs.Machine.{seg_of}
use Rattle.snapshot_core.proofs.Mirror.{begins_at}
use Rattle.snapshot_core.proofs.actor.Machine.begin.Goals as goal

pub returns-then-accepts-clause-world : goal.returns-then-accepts-clause-world
returns-then-accepts-clause-world g c =
    let m = c.args.self.now in let l : c.len.result ≡ length m.actors.items = search rules in
    begins_at g.row.C g.row.H g.row.G m.n (map seg_of m.segments.items) m.actors.items (map published_of m.publishes.items)
    (map answered_of m.answers.items) c.args.at c.args.who c.args.ops.now c.index.result.now c.index_mut.result.now
    c.start.new.self
    (let t = c.if-who-len.true in omega arith) c.index.ensures c.index_mut.ensures.value c.in-Rest.is c.if-accepts.ensures
    c.start.ensures
