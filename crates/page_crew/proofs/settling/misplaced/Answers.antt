use Rattle.std.proofs.Common.{◌≡◌, true, false, length, inl, inr, refl, sym, ap, subst, ◌∙◌, arith}
use mathlib.Core.Logic.{dite}
use native.Mathlib.Decide.{ℕ_discrete}
use mathlib.Core.Option.{some, some-injective}
use lib.ListN.{get_elem?}
use Rattle.register_rule.proofs.Words.{there, at_below}
use Rattle.page_crew.specs.Settling.{CountsAs, StandsAt}
use Rattle.page_crew.specs.declared.page_recorder.PageRecorder.{PageRecorder}
use Rattle.page_crew.proofs.settling.misplaced.Goals as goal

pub returns-then-not-counts_as-clause-some : goal.returns-then-not-counts_as-clause-some
returns-then-not-counts_as-clause-some g c =
    let rs = c.args.recorders.now in let place = c.loop-place.place in let r = c.index-recorders-place.result in
    let here : get_elem? rs place ≡ some r = there rs place r c.loop-place-test.true ∙ ap some (sym c.index-recorders-place.is) in
    record {
      before = c.loop-place.invariant;
      not_here = λ h.
          let same : h.0 ≡ r = some-injective h.0 r (sym h.1 ∙ here) in
          let e : false ≡ true = c.if-not-counts_as.ensures.1
          (subst (λ (x : PageRecorder g.row.N g.row.C g.row.H g.row.G). CountsAs c.args.board place x) same h.2) in
          cc;
      inside = inr c.loop-place-test.true;
    }

pub loop-place-preserved : goal.loop-place-preserved
loop-place-preserved g c =
    let rs = c.args.recorders.now in let place = c.loop-place.place in let r = c.index-recorders-place.result in
    let here : get_elem? rs place ≡ some r = there rs place r c.loop-place-test.true ∙ ap some (sym c.index-recorders-place.is) in
    λ j lt. dite (ℕ_discrete j place)
    (λ e. subst (λ i. StandsAt c.args.board rs i) (sym e) (r, here, c.if-not-counts_as.ensures.0 refl))
    (λ other. c.loop-place.invariant j (omega (arith, lt, other)))

pub returns-then-recorders-clause-some : goal.returns-then-recorders-clause-some
returns-then-recorders-clause-some g c =
    let rs = c.args.recorders.now in let end = c.loop-place-test.false in
    record {
      before = λ j lt. c.loop-place.invariant j (omega (arith, lt, end));
      not_here = λ h. let lt = at_below rs (length rs) h.0 h.1 in omega (arith, lt);
      inside = inl c.if-recorders.true;
    }
