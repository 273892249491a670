use Rattle.std.proofs.Common.{sym, ap, ◌∙◌, arith}
use mathlib.Core.Logic.{dite}
use native.Mathlib.Decide.{ℕ_discrete}
use lib.ListN.{get_elem?}
use Rattle.register_rule.proofs.Words.{there, read_at, at_below}
use Rattle.chain_law.proofs.history.rises.Goals as goal

pub returns-then-to-i-clause-falls : goal.returns-then-to-i-clause-falls
returns-then-to-i-clause-falls c = λ _. let lt = c.loop-i-test.true in let all = c.requires.all in (
  c.loop-i.i,
  _,
  _,
  there c.args.from.now c.loop-i.i 0 lt,
  there c.args.to.now c.loop-i.i 0 (omega (arith, lt, all)),
  c.if-to-i.true,
)

pub loop-i-preserved : goal.loop-i-preserved
loop-i-preserved c = λ q x y below from to. let f = c.if-to-i.false in dite (ℕ_discrete q c.loop-i.i)
    (λ last. let a = read_at c.args.from.now c.loop-i.i x 0 (ap (get_elem? c.args.from.now) (sym last) ∙ from) in
    let b = read_at c.args.to.now c.loop-i.i y 0 (ap (get_elem? c.args.to.now) (sym last) ∙ to) in omega (arith, a, b, f))
    (λ other. c.loop-i.invariant q x y (omega (arith, below, other)) from to)

pub returns-clause-rises : goal.returns-clause-rises
returns-clause-rises c = λ _ i x y from to. let lt = at_below c.args.from.now i x from in let f = c.loop-i-test.false in
    c.loop-i.invariant i x y (omega (arith, lt, f)) from to
