use Rattle.std.proofs.Common.{ℕ, ◌+◌, length, sym, ap, subst, arith}
use mathlib.Core.Logic.{dite}
use native.Mathlib.Decide.{ℕ_discrete}
use Rattle.page_crew.specs.Settling.{AreAll}
use Rattle.page_crew.proofs.owner.PageCrew.not_all.Goals as goal

pub loop-number-preserved : goal.loop-number-preserved
loop-number-preserved g c = λ k lt.
    let first : ℕ = c.args.self.now.first in
    dite (ℕ_discrete k c.loop-number.number)
    (λ e. subst (λ j. AreAll (first + j) c.args.recorders.now) (sym e) c.in_default.ensures.none)
    (λ other. c.loop-number.invariant k (omega (arith, lt, other)))

pub returns-clause-none : goal.returns-clause-none
returns-clause-none g c = λ k lt.
    let end = c.loop-number-test.false in let same = ap length c.boards-number-end.ensures.boards in
    c.loop-number.invariant k (omega (arith, lt, end, same))
