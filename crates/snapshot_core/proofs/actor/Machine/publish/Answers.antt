use Rattle.std.proofs.Common.{◌≡◌, ◌<◌, ◌+◌, ◌∙◌, ◌++◌, sym, ap, List, [], ◌∷◌, length, map, Option, ℕ, rules, arith}
use Rattle.std.specs.Prelude.{option_map}
use Rattle.std.proofs.lemmas.Bool.{lt-ltb}
use Rattle.std.proofs.lemmas.List.{map-append}
use Rattle.ledger_core.specs.declared.op.Op.{Op}
use Rattle.snapshot_core.specs.declared.actor.Segment.{Segment}
use Rattle.snapshot_core.specs.declared.actor.Actor.{Actor}
use Rattle.snapshot_core.specs.declared.actor.Lent.{Lent}
use Rattle.snapshot_core.specs.declared.actor.Phase.TheVariants as phase
use Rattle.snapshot_core.specs.declared.trace.Publish.{Publish}
use Rattle.snapshot_core.specs.History.{Published}
use Rattle.snapshot_core.specs.Turns.{answered_of, published_of}
use Rattle.snapshot_core.specs.Machine.{Seg, Act, act_of, lent_of, applied}
use Rattle.snapshot_core.proofs.Mirror.{publishes_at}
use Rattle.snapshot_core.proofs.actor.Machine.publish.Goals as goal

pub returns-clause-world : goal.returns-clause-world
returns-clause-world g c =
    let m = c.args.self.now in
    let s = c.index-segment.result.now in
    let a = c.index_mut-actor.result.now in
    let l : c.len.result ≡ length m.segments.items = search rules in
    let f = c.if-who-len.false in
    let small : s.number < 18446744073709551615 = search rules in
    let new : Segment g.row.C g.row.H g.row.G = record {
      number = s.number + 1;
      row = c.apply.new.row;
      view = c.take-view.result;
    } in
    let idle : Actor = record a { phase = phase.Rest; view = c.take-view.new.self } in
    let p : Publish = record { at = c.args.at; worker = c.args.who; ops = c.in_ok-ops.ops } in
    publishes_at g.row.C g.row.H g.row.G m.n m.segments.items m.actors.items (map published_of m.publishes.items)
    (map published_of c.push.new.self.items) (map answered_of m.answers.items)
    c.args.at c.args.who c.args.ops.now s new a idle c.apply.new.row
    c.requires.known c.index_mut-actor.ensures.value (omega arith) c.index-segment.ensures
    (ap (λ (r : List ℕ). applied g.row.C g.row.H g.row.G r c.args.ops.now) (sym c.copy-row.ensures)
    ∙ c.if-not-apply.ensures.applied)
    (lt-ltb s.number 18446744073709551615 small)
    (ap (λ (v : Option Lent). let y : Seg = record {
      number = s.number + 1;
      row = c.apply.new.row;
      view = option_map lent_of v;
    } in y) c.take-view.ensures.value)
    (ap (λ (v : Option Lent). let y : Act = record (act_of a) { phase = phase.Rest; view = option_map lent_of v } in
    y) c.take-view.ensures.after)
    (ap (map published_of) c.in_ok-push.ensures.items ∙ map-append published_of m.publishes.items (p ∷ [])
    ∙ ap (λ (ops : List Op). map published_of m.publishes.items ++ (let y : Published = record {
      at = c.args.at;
      worker = c.args.who;
      ops = ops;
    } in y) ∷ []) c.in_ok-ops.ensures)
