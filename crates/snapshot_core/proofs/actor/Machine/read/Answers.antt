use Rattle.std.proofs.Common.{◌≡◌, ◌∙◌, sym, ap, ltb, length, map, rules, arith}
use Rattle.snapshot_core.specs.Turns.{answered_of, published_of}
use Rattle.snapshot_core.specs.Machine.{place_in}
use Rattle.snapshot_core.proofs.Mirror.{on_both, reads_at}
use Rattle.snapshot_core.proofs.actor.Machine.read.Goals as goal

pub returns-clause-world : goal.returns-clause-world
returns-clause-world g c =
    let m = c.args.self.now in
    let l : c.len.result ≡ length m.segments.items = search rules in
    let l2 : c.len-2.result ≡ length m.segments.items = search rules in
    let f = c.if-place-len.false in
    on_both c.read_on.result c.read_on.ensures.actor c.read_on.ensures.answers (λ e a.
    reads_at g.row.C g.row.H g.row.G m.n m.segments.items m.actors.items (map published_of m.publishes.items)
    (map answered_of m.answers.items) (map answered_of c.read_on.new.answers.items)
    c.args.at c.args.who c.in-Some.place c.args.torn (ltb c.args.who c.len-2.result) c.index.result.now
    c.index_mut-actor.result.now c.read_on.new.self c.index-2.result.now
    c.requires.known c.index.ensures c.index_mut-actor.ensures.value (ap place_in (sym c.next.ensures.next)
    ∙ sym c.in-Some.ensures) (omega arith) c.index-2.ensures (ap (ltb c.args.who) l2) e a)
