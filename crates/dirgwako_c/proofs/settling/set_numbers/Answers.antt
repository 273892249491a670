use Rattle.std.proofs.Common.{◌≡◌, ℕ, ◌<◌, List, length, set, sym, ap, ◌∙◌, arith}
use Rattle.std.proofs.lemmas.List.{length-set, length-map}
use mathlib.Core.Logic.{dite}
use native.Mathlib.Decide.{ℕ_discrete}
use mathlib.Core.Option.{some, some-injective}
use lib.ListN.{get_elem?}
use Rattle.snapshot_update.specs.Workers.{index_of, member_of, lists_of, ops_in}
use Rattle.snapshot_scan.specs.Snapshots.{Taken}
use Rattle.chain_law.proofs.Places.{set_else}
use Rattle.dirgwako_c.specs.Registries.{recorders_in}
use Rattle.dirgwako_c.specs.Settling.{OneWorker, seats_on, workers_of}
use Rattle.page_crew.proofs.Places.{set_here}
use Rattle.dirgwako_c.proofs.Settled.{its, seats_many, worker_here, worker_below}
use Rattle.dirgwako_c.proofs.settling.set_numbers.Goals as goal

pub loop-place-init : goal.loop-place-init
loop-place-init g c = record {
  all = ap length (sym c.vector-vector.ensures.numbers) ∙ c.vector-vector.ensures.all;
  numbers = λ p w none. absurd (omega (arith, none));
}

pub loop-place-preserved : goal.loop-place-preserved
loop-place-preserved g c =
    let rs = seats_on c.args.board (recorders_in c.args.spare.now) in let place : ℕ = c.loop-place.place in let r =
    c.seat-recorder.result.now in
    let vector = c.loop-place.out.vector in let all = c.loop-place.invariant.all in
    let worker = its r in let i : ℕ = c.index.result in let n : ℕ = c.number.result in
    let inside = c.index.ensures.inside in
    let here : get_elem? (workers_of rs) place ≡ some worker = worker_here rs place r c.seat-recorder.ensures in
    let new = ap (λ (t : Taken). t.vector) c.set_number.ensures in
    let count : n ≡ length (lists_of worker) = c.number.ensures ∙ sym (length-map (member_of worker).work.made ops_in) in
    record {
      all = ap (λ (l : List ℕ). length l) new ∙ (length-set vector i n ∙ all);
      numbers = λ p w small at. ap (λ (l : List ℕ). get_elem? l (index_of w)) new ∙ dite (ℕ_discrete p place)
          (λ last.
          let same : worker ≡ w = some-injective worker w (sym here ∙ (ap (get_elem? (workers_of rs)) (sym last) ∙ at)) in
          ap (get_elem? (set vector i n)) (sym (c.index.ensures.index ∙ ap index_of same))
          ∙ (set_here vector i n (omega (arith, inside, all)) ∙ ap some (count ∙ ap (λ (v : OneWorker g.row.N g.row.C g.row.H
          g.row.G). length (lists_of v)) same)))
          (λ other.
          let before : p < place = omega (arith, small, other) in
          set_else vector i (index_of w) n (λ e. c.requires.once p place w worker before at here (e ∙ c.index.ensures.index))
          ∙ c.loop-place.invariant.numbers p w before at);
    }

pub returns : goal.returns
returns g c = λ p w at.
    let lt = worker_below (seats_on c.args.board (recorders_in c.args.spare.now)) p w at in let count =
    c.len-place-end.ensures.count in
    let many = seats_many c.args.board (recorders_in c.args.spare.now) c.requires.known in
    let end = c.loop-place-test.false in
    c.loop-place.invariant.numbers p w (omega (arith, lt, count, end, many)) at
