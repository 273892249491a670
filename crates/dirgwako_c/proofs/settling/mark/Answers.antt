use Rattle.std.proofs.Common.{◌≡◌, ⊎_elim, ℕ, true, false, sym, ap, ◌∙◌, arith}
use Rattle.std.proofs.lemmas.Bool.{true≢false}
use Rattle.std.proofs.lemmas.List.{length-set}
use mathlib.Core.Logic.{dite}
use native.Mathlib.Decide.{ℕ_discrete}
use mathlib.Core.Option.{some, some-injective}
use lib.ListN.{get_elem?}
use Rattle.snapshot_update.specs.Workers.{index_of}
use Rattle.register_rule.proofs.Words.{there}
use Rattle.chain_law.proofs.Places.{from_set}
use Rattle.dirgwako_c.specs.Registries.{recorders_in}
use Rattle.dirgwako_c.specs.Settling.{OneWorker, seats_on, workers_of}
use Rattle.dirgwako_c.proofs.Settled.{its, seats_many, worker_here, worker_below}
use Rattle.dirgwako_c.proofs.settling.mark.Goals as goal

pub loop-place-init : goal.loop-place-init
loop-place-init g c = record {
  all = c.requires.all;
  marked = λ i lt e. absurd (true≢false (some-injective true false (sym e ∙ c.requires.none i lt)));
  unmarked = λ i lt e p w none. absurd (omega (arith, none));
  once = λ p q v w lt none. absurd (omega (arith, none));
}

pub loop-place-preserved : goal.loop-place-preserved
loop-place-preserved g c =
    let ws = workers_of (seats_on c.args.board (recorders_in c.args.spare.now)) in let place : ℕ = c.loop-place.place in
    let marks = c.loop-place.marks in let worker = its c.seat.result.now in let at : ℕ = c.index-worker.result in
    let inv = c.loop-place.invariant in
    let here : get_elem? ws place ≡ some worker = worker_here (seats_on c.args.board (recorders_in c.args.spare.now)) place
    c.seat.result.now c.seat.ensures in
    let is : index_of worker ≡ at = sym c.index-worker.ensures.index in
    let inside = c.index-worker.ensures.inside in
    let free : get_elem? marks at ≡ some false = there marks at false (omega (arith, inside, inv.all)) ∙ ap some
    c.if-marks-worker.false in
    let one = λ (w : OneWorker g.row.N g.row.C g.row.H g.row.G) (e : get_elem? ws place ≡ some w). some-injective worker w (sym
    here ∙ e) in
    record {
      all = length-set marks at true ∙ inv.all;
      marked = λ i lt e. ⊎_elim (λ h. (place, worker, omega arith, here, is ∙ sym h.0))
          (λ h. let (p, w, below, its, same) = inv.marked i lt h.1 in (p, w, omega (arith, below), its, same))
          (from_set marks at i true true e);
      unmarked = λ i lt e p w below its. ⊎_elim (λ h. absurd (true≢false h.1)) (λ h. dite (ℕ_discrete p place)
          (λ last same. h.0 (sym same ∙ (ap index_of (sym (one w (ap (get_elem? ws) (sym last) ∙ its))) ∙ is)))
          (λ other. inv.unmarked i lt h.1 p w (omega (arith, below, other)) its))
          (from_set marks at i true false e);
      once = λ p q v w lt below a b. dite (ℕ_discrete q place)
          (λ last same. inv.unmarked at inside free p v (omega (arith, lt, last)) a
          (same ∙ (ap index_of (sym (one w (ap (get_elem? ws) (sym last) ∙ b))) ∙ is)))
          (λ other. inv.once p q v w lt (omega (arith, below, other)) a b);
    }

pub returns-then-marks-worker : goal.returns-then-marks-worker
returns-then-marks-worker g c =
    let ws = workers_of (seats_on c.args.board (recorders_in c.args.spare.now)) in let place : ℕ = c.loop-place.place in
    let marks = c.loop-place.marks in let worker = its c.seat.result.now in let at : ℕ = c.index-worker.result in
    let inv = c.loop-place.invariant in let inside = c.index-worker.ensures.inside in
    let taken : get_elem? marks at ≡ some true = there marks at false (omega (arith, inside, inv.all)) ∙ ap some
    c.if-marks-worker.true in
    let (p, w, below, its, same) = inv.marked at inside taken in
    record {
      marks = λ yes. absurd (true≢false (sym yes));
      once = λ yes. absurd (true≢false (sym yes));
      twice = λ _. record {
        first = p;
        second = place;
        one = w;
        other = worker;
        apart = below;
        here = its;
        there = worker_here (seats_on c.args.board (recorders_in c.args.spare.now)) place c.seat.result.now c.seat.ensures;
        same = same ∙ c.index-worker.ensures.index;
      };
    }

pub returns : goal.returns
returns g c =
    let rs = seats_on c.args.board (recorders_in c.args.spare.now) in
    let inv = c.loop-place.invariant in let end = c.loop-place-test.false in
    let many = seats_many c.args.board (recorders_in c.args.spare.now) c.requires.known in let count =
    c.len-place-end.ensures.count in
    record {
      marks = λ _ i lt. (
        (λ e. let (p, w, below, at, same) = inv.marked i lt e in (p, w, at, same)),
        λ e has. inv.unmarked i lt e has.0 has.1 (let low = worker_below rs has.0 has.1 has.2 in omega (
          arith,
          low,
          end,
          count,
          many,
        )) has.2 has.3,
      );
      once = λ _ p q v w lt a b. inv.once p q v w lt (let low = worker_below rs q w b in omega (arith, low, end, count, many)) a
          b;
      twice = λ no. absurd (true≢false no);
    }
