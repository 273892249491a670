use Rattle.std.proofs.Common.{◌≡◌, ◌∙◌, sym, ap, subst, cond, Bool, List, length, rules, arith}
use Rattle.std.specs.Prelude.{slice_get, OnOk}
use Rattle.std.proofs.lemmas.List.{length-map, get_or_read}
use Rattle.std.proofs.lemmas.Option.{slice_get_past}
use Rattle.ledger_core.specs.declared.op.Op.{Op}
use Rattle.snapshot_core.specs.declared.actor.Actor.{Actor}
use Rattle.snapshot_core.specs.Turns.{ops_of}
use Rattle.snapshot_core.specs.Machine.{World, act_of, world_of, reads, publishes_by, publishes_as, steps_in, steps}
use Rattle.snapshot_core.proofs.Mirror.{found}
use Rattle.snapshot_core.proofs.actor.Machine.step.Goals as goal

pub returns-then-who-len-clause-world : goal.returns-then-who-len-clause-world
returns-then-who-len-clause-world g c =
    let m = c.args.self.now in
    let w : World = world_of m in
    let l : c.len.result ≡ length m.actors.items = search rules in
    let p = c.if-who-len.true in
    let n = length-map m.actors.items act_of in
    ap (steps g.row.C g.row.H g.row.G m.n c.args.events.now w c.args.at c.args.who c.args.torn)
    (sym (slice_get_past w.actors c.args.who (omega arith)))

pub returns-in-Rest-clause-world : goal.returns-in-Rest-clause-world
returns-in-Rest-clause-world g c =
    let m = c.args.self.now in
    let w : World = world_of m in
    let a = c.index.result.now in
    let l : c.len.result ≡ length m.actors.items = search rules in
    let p = c.if-who-len.false in
    ap (steps_in g.row.C g.row.H g.row.G m.n c.args.events.now w c.args.at c.args.who c.args.torn (act_of a)) (sym c.in-Rest.is)
    ∙ ap (steps g.row.C g.row.H g.row.G m.n c.args.events.now w c.args.at c.args.who c.args.torn)
    (sym (found act_of m.actors.items c.args.who a (omega arith) c.index.ensures))

pub returns-in-Scan-clause-world : goal.returns-in-Scan-clause-world
returns-in-Scan-clause-world g c =
    let m = c.args.self.now in
    let w : World = world_of m in
    let a = c.index.result.now in
    let l : c.len.result ≡ length m.actors.items = search rules in
    let p = c.if-who-len.false in
    let at = found act_of m.actors.items c.args.who a (omega arith) c.index.ensures in
    subst (λ (z : World). OnOk c.read.result (world_of c.read.new.self ≡ z))
    (ap (reads g.row.C g.row.H g.row.G m.n w c.args.at c.args.who c.args.torn) at
    ∙ ap (steps_in g.row.C g.row.H g.row.G m.n c.args.events.now w c.args.at c.args.who c.args.torn (act_of a)) (sym c.in-Scan.is)
    ∙ ap (steps g.row.C g.row.H g.row.G m.n c.args.events.now w c.args.at c.args.who c.args.torn) (sym at))
    c.read.ensures.world

pub returns-then-torn-clause-world : goal.returns-then-torn-clause-world
returns-then-torn-clause-world g c =
    let m = c.args.self.now in
    let w : World = world_of m in
    let a = c.index.result.now in
    let l : c.len.result ≡ length m.actors.items = search rules in
    let p = c.if-who-len.false in
    let at = found act_of m.actors.items c.args.who a (omega arith) c.index.ensures in
    ap (λ (b : Bool). cond b w (publishes_as g.row.C g.row.H g.row.G m.n w c.args.at c.args.who
    (ops_of (slice_get c.args.events.now a.begin)) (act_of a) (slice_get w.segments c.args.who))) (sym c.if-torn.true)
    ∙ ap (steps_in g.row.C g.row.H g.row.G m.n c.args.events.now w c.args.at c.args.who c.args.torn (act_of a)) (sym
    c.in-Ready.is)
    ∙ ap (steps g.row.C g.row.H g.row.G m.n c.args.events.now w c.args.at c.args.who c.args.torn) (sym at)

pub returns-else-torn-clause-world : goal.returns-else-torn-clause-world
returns-else-torn-clause-world g c =
    let m = c.args.self.now in
    let w : World = world_of m in
    let a = c.index-in-Ready.result.now in
    let l : c.len.result ≡ length m.actors.items = search rules in
    let p = c.if-who-len.false in
    let at = found act_of m.actors.items c.args.who a (omega arith) c.index-in-Ready.ensures in
    let one = found act_of m.actors.items c.args.who c.index.result.now (omega arith) c.index.ensures in
    let ready = ap (λ (z : Actor). z.phase) (get_or_read m.actors.items c.args.who a (omega arith) c.index-in-Ready.ensures
    c.index.result.now ∙ sym c.index.ensures) ∙ c.in-Ready.is in
    subst (λ (z : World). OnOk c.publish.result (world_of c.publish.new.self ≡ z))
    (ap (publishes_by g.row.C g.row.H g.row.G m.n w c.args.at c.args.who c.ops_at.result.now) at
    ∙ ap (λ (ops : List Op). publishes_as g.row.C g.row.H g.row.G m.n w c.args.at c.args.who ops (act_of a)
    (slice_get w.segments c.args.who)) c.ops_at.ensures
    ∙ ap (λ (b : Bool). cond b w (publishes_as g.row.C g.row.H g.row.G m.n w c.args.at c.args.who
    (ops_of (slice_get c.args.events.now a.begin)) (act_of a) (slice_get w.segments c.args.who))) (sym c.if-torn.false)
    ∙ ap (steps_in g.row.C g.row.H g.row.G m.n c.args.events.now w c.args.at c.args.who c.args.torn (act_of a)) (sym ready)
    ∙ ap (steps g.row.C g.row.H g.row.G m.n c.args.events.now w c.args.at c.args.who c.args.torn) (sym at))
    c.publish.ensures.world
