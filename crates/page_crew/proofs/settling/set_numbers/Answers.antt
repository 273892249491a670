use Rattle.std.proofs.Common.{◌≡◌, ◌≢◌, ℕ, ◌<◌, List, length, set, sym, ap, subst, ◌∙◌, arith}
use Rattle.std.proofs.lemmas.List.{length-set}
use Rattle.std.proofs.lemmas.List.Elements.{All-contains}
use mathlib.Core.Logic.{dite}
use native.Mathlib.Decide.{ℕ_discrete}
use mathlib.Core.Option.{some, some-injective}
use lib.ListN.{get_elem?}
use Rattle.register_rule.proofs.Words.{there, at_below}
use Rattle.snapshot_update.specs.Workers.{member_of}
use Rattle.snapshot_scan.specs.Snapshots.{Taken}
use Rattle.chain_law.proofs.Places.{set_else}
use Rattle.page_crew.specs.Held.{recorders_of}
use Rattle.page_crew.specs.Shared.{id_in, worker_in}
use Rattle.page_crew.specs.Settling.{CountsWith}
use Rattle.page_crew.specs.declared.page_recorder.PageRecorder.{PageRecorder}
use Rattle.page_crew.specs.declared.shared_recorder.SharedRecorder.{SharedRecorder}
use Rattle.page_crew.proofs.OneBoard.{same_on}
use Rattle.page_crew.proofs.Places.{set_here}
use Rattle.page_crew.proofs.Published.{with_one}
use Rattle.page_crew.proofs.settling.set_numbers.Goals as goal

pub bounds-recorders-place : goal.bounds-recorders-place
bounds-recorders-place g c =
    let lt = c.loop-place-test.true in let few = c.vector-place-end.ensures.all in let many = c.requires.all.many in
    omega (arith, lt, few, many)

pub unreachable-requires : goal.unreachable-requires
unreachable-requires g c =
    let rs = c.args.recorders.now in let place : ℕ = c.loop-place.place in let r = c.index-recorders-place.result in
    let lt = c.loop-place-test.true in let few = c.vector-place-end.ensures.all in let many = c.requires.all.many in
    let inside : place < length rs = omega (arith, lt, few, many) in
    let here : get_elem? rs place ≡ some r = there rs place r inside ∙ ap some (sym c.index-recorders-place.is) in
    let (s, counts, is) = with_one c.args.board rs c.requires.all place r here in
    All-contains (λ (x : SharedRecorder g.row.N g.row.C g.row.H g.row.G). id_in x ≢ c.args.board) (recorders_of r) s
    c.in_default.ensures
    counts.0 counts.1

pub loop-place-preserved : goal.loop-place-preserved
loop-place-preserved g c =
    let rs = c.args.recorders.now in let place : ℕ = c.loop-place.place in let r = c.index-recorders-place.result in
    let on = c.in-Some.on.now in
    let vector = c.loop-place.out.vector in let all = c.loop-place.invariant.all in let many = c.requires.all.many in
    let lt = c.loop-place-test.true in let few = c.vector-place-end.ensures.all in
    let inside : place < length rs = omega (arith, lt, few, many) in
    let here : get_elem? rs place ≡ some r = there rs place r inside ∙ ap some (sym c.index-recorders-place.is) in
    let new = ap (λ (t : Taken). t.vector) c.set_number.ensures in
    record {
      all = ap (λ (l : List ℕ). length l) new ∙ (length-set vector place c.number.result ∙ all);
      numbers = λ i x s small at counts. ap (λ (l : List ℕ). get_elem? l i) new ∙ dite (ℕ_discrete i place)
          (λ e.
          let same : r ≡ x = some-injective r x (sym here ∙ (ap (get_elem? rs) (sym e) ∙ at)) in
          let one : on ≡ s = same_on c.args.board x on s
          (subst (λ (y : PageRecorder g.row.N g.row.C g.row.H g.row.G). CountsWith c.args.board y on) same
          c.in-Some.ensures) counts in
          ap (get_elem? (set vector place c.number.result)) e
          ∙ (set_here vector place c.number.result (omega (arith, lt, few, all))
          ∙ ap some (c.number.ensures ∙ ap (λ y. length (member_of (worker_in y)).work.made) one)))
          (λ other. set_else vector place i c.number.result other
          ∙ c.loop-place.invariant.numbers i x s (omega (arith, small, other)) at counts);
    }

pub returns : goal.returns
returns g c = λ i r s at counts.
    let lt = at_below c.args.recorders.now i r at in let many = c.requires.all.many in let few = c.vector-place-end.ensures.all in
    let end = c.loop-place-test.false in
    c.loop-place.invariant.numbers i r s (omega (arith, lt, many, few, end)) at counts
