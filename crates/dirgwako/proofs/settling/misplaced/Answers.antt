use Rattle.std.proofs.Common.{◌≡◌, length, inl, inr, sym, ap, ◌∙◌, arith}
use mathlib.Core.Logic.{dite}
use native.Mathlib.Decide.{ℕ_discrete}
use mathlib.Core.Option.{some, some-injective}
use lib.ListN.{get_elem?}
use Rattle.register_rule.proofs.Words.{there, at_below}
use Rattle.snapshot_update.specs.Workers.{index_of}
use Rattle.dirgwako.specs.Recorders.{worker_in}
use Rattle.dirgwako.proofs.settling.misplaced.Goals as goal

pub returns-then-index-place-clause-some : goal.returns-then-index-place-clause-some
returns-then-index-place-clause-some g c =
    let rs = c.args.recorders.now in let place = c.loop-place.place in let r = c.index-recorders-place.result in
    let here : get_elem? rs place ≡ some r = there rs place r c.loop-place-test.true ∙ ap some (sym c.index-recorders-place.is) in
    record {
      before = c.loop-place.invariant;
      not_here = λ h. c.if-index-place.true (c.index.ensures.index
          ∙ (ap (λ x. index_of (worker_in x)) (some-injective r h.0 (sym here ∙ h.1)) ∙ h.2));
      inside = inr c.loop-place-test.true;
    }

pub loop-place-preserved : goal.loop-place-preserved
loop-place-preserved g c =
    let rs = c.args.recorders.now in let place = c.loop-place.place in let r = c.index-recorders-place.result in
    let here : get_elem? rs place ≡ some r = there rs place r c.loop-place-test.true ∙ ap some (sym c.index-recorders-place.is) in
    λ j lt. dite (ℕ_discrete j place)
    (λ e. (r, ap (get_elem? rs) e ∙ here, sym c.index.ensures.index ∙ (c.if-index-place.false ∙ sym e)))
    (λ other. c.loop-place.invariant j (omega (arith, lt, other)))

pub returns-then-recorders-clause-some : goal.returns-then-recorders-clause-some
returns-then-recorders-clause-some g c =
    let rs = c.args.recorders.now in let end = c.loop-place-test.false in
    record {
      before = λ j lt. c.loop-place.invariant j (omega (arith, lt, end));
      not_here = λ h. let lt = at_below rs (length rs) h.0 h.1 in omega (arith, lt);
      inside = inl c.if-recorders.true;
    }
