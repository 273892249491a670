use Rattle.std.proofs.Common.{◌<◌, ◌≢◌, ◌∙◌, List, arith, min, refl, sym, ap, subst}
use Rattle.ledger_core.specs.declared.op.Op.TheVariants.{Observe}
use Rattle.ledger_core.specs.declared.op.Op.{Op}
use Rattle.ledger_core.specs.Tally.{Tallied, IsTallied, IsTally}
use Rattle.ledger_core.proofs.Placing.{offered_observe}
use Rattle.ledger_core.proofs.Taking.{fault_told, sum_passes, apart_of, joins_no}
use Rattle.ledger_core.proofs.tally.Tally.observe.Goals as goal

pub returns-then-value-self-clause-fault : goal.returns-then-value-self-clause-fault
returns-then-value-self-clause-fault g c =
    let few = c.as_slice.ensures.rising.few in
    let low = c.place-place.ensures.within in
    let lt : c.place-place.result < 25 = omega arith in
    rw (← c.place-place.ensures.place)
    (sum_passes g.row.C g.row.H g.row.G c.args.hist.now.registry c.self.inside.registry c.args.hist.now.slot c.place-place.result
    c.args.value (min g.row.K 65536)
    c.self.inside.list c.self.inside.sums c.args.self.now c.self.view_is c.if-hist-self.false
    (omega arith) lt c.self.invariant.summed (omega arith))

pub invariant_of-self : goal.invariant_of-self
invariant_of-self g c =
    let f = c.self.inside in
    let few = c.as_slice.ensures.rising.few in
    let low = c.place-place.ensures.within in
    let lt : c.place-place.result < 25 = omega arith in
    offered_observe g.row.C g.row.H g.row.G c.args.hist.now.slot c.place-place.result c.args.value f.list c.add.new.self
    f.counters f.ups f.downs f.sums (omega arith) lt (omega arith) c.self.invariant c.in-Ok.ensures.taken c.in-Ok.ensures.added.1

pub returns-in-Err-clause-fault : goal.returns-in-Err-clause-fault
returns-in-Err-clause-fault g c =
    let few = c.as_slice.ensures.rising.few in
    let low = c.place-place.ensures.within in
    let lt : c.place-place.result < 25 = omega arith in
    let hist = c.args.hist.now.slot in
    let place = c.place-place.result in
    let value = c.args.value in
    let f = c.self.inside in
    rw (← c.place-place.ensures.place)
    (fault_told g.row.C g.row.H g.row.G (min g.row.K 65536) c.args.hist.now.registry 0 (Observe hist place value)
    f.registry f.list c.args.self.now c.in-Err.fault c.self.view_is c.if-hist-self.false (omega arith, lt)
    (λ apart i o is. joins_no hist place value o)
    (apart_of (min g.row.K 65536) 0 f.list (Observe hist place value) c.in-Err.fault (λ o is. joins_no hist place value o)
    c.in-Err.ensures.fault))

pub returns-then-hist-self-clause-tallied : goal.returns-then-hist-self-clause-tallied
returns-then-hist-self-clause-tallied g c = tt

pub returns-then-hist-self-clause-unchanged : goal.returns-then-hist-self-clause-unchanged
returns-then-hist-self-clause-unchanged g c = refl

pub returns-then-slot-clause-tallied : goal.returns-then-slot-clause-tallied
returns-then-slot-clause-tallied g c = tt

pub returns-then-slot-clause-unchanged : goal.returns-then-slot-clause-unchanged
returns-then-slot-clause-unchanged g c = refl

pub returns-then-value-self-clause-tallied : goal.returns-then-value-self-clause-tallied
returns-then-value-self-clause-tallied g c = tt

pub returns-then-value-self-clause-unchanged : goal.returns-then-value-self-clause-unchanged
returns-then-value-self-clause-unchanged g c = refl

pub returns-in-Ok-clause-fault : goal.returns-in-Ok-clause-fault
returns-in-Ok-clause-fault g c = tt

pub returns-in-Ok-clause-unchanged : goal.returns-in-Ok-clause-unchanged
returns-in-Ok-clause-unchanged g c = tt

pub returns-in-Err-clause-tallied : goal.returns-in-Err-clause-tallied
returns-in-Err-clause-tallied g c = tt

pub returns-in-Err-clause-unchanged : goal.returns-in-Err-clause-unchanged
returns-in-Err-clause-unchanged g c =
    ap (λ (ops : List Op). let t : Tallied = record { registry = c.self.inside.registry; ops = ops } in
    t) c.in-Err.ensures.unchanged ∙ c.self.view_is

pub invariant_of-self-in-Err : goal.invariant_of-self-in-Err
invariant_of-self-in-Err g c =
    let f = c.self.inside in
    subst (λ (ops : List Op). IsTally g.row.C g.row.H g.row.G ops f.counters f.ups f.downs f.sums)
    (sym c.in-Err.ensures.unchanged) c.self.invariant

pub returns-in-Ok-clause-tallied : goal.returns-in-Ok-clause-tallied
returns-in-Ok-clause-tallied g c =
    let few = c.as_slice.ensures.rising.few in
    let low = c.place-place.ensures.within in
    let lt : c.place-place.result < 25 = omega arith in
    let new : Tallied = record { registry = c.self.inside.registry; ops = c.add.new.self } in
    rw (← c.place-place.ensures.place)
    (subst (λ (t : Tallied). IsTallied g.row.C g.row.H g.row.G c.args.hist.now.registry
    (Observe c.args.hist.now.slot c.place-place.result c.args.value) t new) c.self.view_is (record {
      of_it = c.if-hist-self.false;
      registry_stays = refl;
      inside = (omega arith, lt);
      takes = c.in-Ok.ensures.taken;
    }))

pub returns-then-hist-self-clause-fault : goal.returns-then-hist-self-clause-fault
returns-then-hist-self-clause-fault g c =
    subst (λ (t : Tallied). c.args.hist.now.registry ≢ t.registry) c.self.view_is c.if-hist-self.true
