use Rattle.std.proofs.Common.{◌≡◌, ℕ, suc, ◌-◌, sym, ap, ◌∙◌, subst, arith}
use mathlib.Core.Logic.{dite}
use native.Mathlib.Decide.{ℕ_discrete}
use lib.ListN.{get_elem?}
use Rattle.register_rule.specs.History.{Below}
use Rattle.chain_law.specs.History.{vectors_of, Falls}
use Rattle.chain_law.proofs.Vectors.{vector_at, vector_is}
use Rattle.chain_law.proofs.history.first_fall.Goals as goal

pub returns-then-not-rises-clause-some : goal.returns-then-not-rises-clause-some
returns-then-not-rises-clause-some g c =
    let l = c.args.snapshots.now in let b : ℕ = c.loop-b.b in let some_b = c.loop-b.auto.b in let lt = c.loop-b-test.true in
    record {
      next = omega (arith, some_b);
      before = c.loop-b.invariant;
      u = c.index-snapshots-b.result.vector;
      v = c.index-snapshots-b-in-loop-b.result.vector;
      from = vector_at l (b - 1) c.index-snapshots-b.result (omega (arith, some_b, lt)) c.index-snapshots-b.is;
      to = vector_at l b c.index-snapshots-b-in-loop-b.result lt c.index-snapshots-b-in-loop-b.is;
      falls = subst (λ u. Falls u c.index-snapshots-b-in-loop-b.result.vector) c.vector.ensures.numbers
          (subst (Falls c.vector.result.now) c.vector-in-loop-b.ensures.numbers (c.rises.ensures.falls c.if-not-rises.true));
    }

pub loop-b-preserved : goal.loop-b-preserved
loop-b-preserved g c =
    let l = c.args.snapshots.now in let b : ℕ = c.loop-b.b in let some_b = c.loop-b.auto.b in let lt = c.loop-b-test.true in
    λ j u v below from to. dite (ℕ_discrete (suc j) b)
    (λ last. let at : j ≡ b - 1 = omega (arith, last) in
    let is_u = vector_is l (b - 1) c.index-snapshots-b.result u (omega (arith, some_b, lt)) c.index-snapshots-b.is
    (ap (get_elem? (vectors_of l)) (sym at) ∙ from) in
    let is_v = vector_is l b c.index-snapshots-b-in-loop-b.result v lt c.index-snapshots-b-in-loop-b.is
    (ap (get_elem? (vectors_of l)) (sym last) ∙ to) in
    subst (λ x. Below x v) (c.vector.ensures.numbers ∙ sym is_u)
    (subst (Below c.vector.result.now) (c.vector-in-loop-b.ensures.numbers ∙ sym is_v)
    (c.rises.ensures.rises c.if-not-rises.false)))
    (λ other. c.loop-b.invariant j u v (omega (arith, below, other)) from to)
