use Rattle.std.proofs.Common.{arith, min, get_or}
use Rattle.ledger_core.specs.declared.op.Op.TheVariants.{Inc}
use Rattle.ledger_core.proofs.Placing.{offered_inc, apart_inc}
use Rattle.ledger_core.proofs.Taking.{fault_if}
use Rattle.ledger_core.proofs.tally.Tally.inc.Goals as goal

pub invariant_of-self : goal.invariant_of-self
invariant_of-self g c =
    let f = c.self.inside in
    let t = c.take in
    offered_inc g.row.C g.row.H g.row.G f.list t.new.self f.counters f.ups f.downs f.sums t.new.places c.args.counter.now.slot
    c.args.by
    c.self.invariant t.result (omega arith) t.ensures.taken t.ensures.placed t.ensures.unchanged

pub returns-clause-fault : goal.returns-clause-fault
returns-clause-fault g c =
    let f = c.self.inside in
    let slot = c.args.counter.now.slot in
    fault_if g.row.C g.row.H g.row.G (min g.row.K 65536) c.args.counter.now.registry (get_or f.counters slot 0) (Inc slot
    c.args.by)
    f.registry f.list c.args.self.now c.take.result c.self.view_is c.if-counter-self.false (omega arith)
    (apart_inc f.list f.counters f.ups f.downs slot c.args.by c.self.invariant.known) c.take.ensures.fault
