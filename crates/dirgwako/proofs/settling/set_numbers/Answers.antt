use Rattle.std.proofs.Common.{◌≡◌, ℕ, ◌<◌, List, length, set, sym, ap, ◌∙◌, arith}
use Rattle.std.proofs.lemmas.List.{length-set}
use mathlib.Core.Logic.{dite}
use native.Mathlib.Decide.{ℕ_discrete}
use mathlib.Core.Option.{some, some-injective}
use lib.ListN.{get_elem?}
use Rattle.register_rule.proofs.Words.{there, at_below}
use Rattle.snapshot_update.specs.Workers.{member_of}
use Rattle.snapshot_scan.specs.Snapshots.{Taken}
use Rattle.chain_law.proofs.Places.{set_else}
use Rattle.dirgwako.specs.Recorders.{worker_in}
use Rattle.page_crew.proofs.Places.{set_here}
use Rattle.dirgwako.proofs.settling.set_numbers.Goals as goal

pub loop-place-preserved : goal.loop-place-preserved
loop-place-preserved g c =
    let rs = c.args.recorders.now in let place : ℕ = c.loop-place.place in let r = c.index-recorders-place.result in
    let vector = c.loop-place.out.vector in let all = c.loop-place.invariant.all in let many = c.requires.all.many in
    let lt = c.loop-place-test.true in let few = c.vector-place-end.ensures.all in
    let inside : place < length rs = omega (arith, lt, few, many) in
    let here : get_elem? rs place ≡ some r = there rs place r inside ∙ ap some (sym c.index-recorders-place.is) in
    let new = ap (λ (t : Taken). t.vector) c.set_number.ensures in
    record {
      all = ap (λ (l : List ℕ). length l) new ∙ (length-set vector place c.number.result ∙ all);
      numbers = λ i x small at. ap (λ (l : List ℕ). get_elem? l i) new ∙ dite (ℕ_discrete i place)
          (λ e. ap (get_elem? (set vector place c.number.result)) e
          ∙ (set_here vector place c.number.result (omega (arith, lt, few, all))
          ∙ ap some (c.number.ensures ∙ ap (λ y. length (member_of (worker_in y)).work.made)
          (some-injective r x (sym here ∙ (ap (get_elem? rs) (sym e) ∙ at))))))
          (λ other. set_else vector place i c.number.result other ∙ c.loop-place.invariant.numbers i x (omega (
            arith,
            small,
            other,
          )) at);
    }

pub returns : goal.returns
returns g c = λ i r at.
    let lt = at_below c.args.recorders.now i r at in let many = c.requires.all.many in let few = c.vector-place-end.ensures.all in
    let end = c.loop-place-test.false in
    c.loop-place.invariant.numbers i r (omega (arith, lt, many, few, end)) at
