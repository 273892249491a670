use Rattle.std.proofs.Common.{rules, ◌≡◌, ℕ, zero, suc, ◌<◌, Bool, false, length, replicate, refl, ap, ◌∙◌, arith}
use mathlib.Core.Logic.{dite}
use native.Mathlib.Decide.{ℕ_discrete}
use mathlib.Core.Option.{some}
use lib.ListN.{get_elem?, length-replicate}
use Rattle.register_rule.proofs.Words.{there}
use Rattle.chain_law.proofs.gathering.missing.Goals as goal

all_false : (n i : ℕ) → i < n → get_elem? {A = Bool} (replicate n false) i ≡ some false
all_false zero i h = absurd (omega (arith, h))
all_false (suc n) zero h = refl
all_false (suc n) (suc i) h = all_false n i (omega (arith, h))

pub whole_as_slice-present : goal.whole_as_slice-present
whole_as_slice-present g c = let h = c.requires.geometry.workers.1 in omega (arith, h)

pub present-requires : goal.present-requires
present-requires g c = (search rules, (length-replicate g.row.N false, λ i lt. all_false g.row.N i lt))

pub returns-then-not-marks-i-clause-least : goal.returns-then-not-marks-i-clause-least
returns-then-not-marks-i-clause-least g c =
    let i : ℕ = c.loop-i.i in let marks = c.present.new.marks in let lt = c.loop-i-test.true in
    let all : length marks ≡ g.row.N = c.present.auto.marks ∙ length-replicate g.row.N false in record {
      inside = lt;
      none = (c.present.ensures.marks i lt).1 (there marks i false (omega (arith, lt, all)) ∙ ap some c.if-not-marks-i.true);
      least = λ j below. (c.present.ensures.marks j (omega (arith, below, lt))).0 (c.loop-i.invariant j below);
    }

pub loop-i-preserved : goal.loop-i-preserved
loop-i-preserved g c = λ j below.
    let i : ℕ = c.loop-i.i in let marks = c.present.new.marks in let lt = c.loop-i-test.true in
    let all : length marks ≡ g.row.N = c.present.auto.marks ∙ length-replicate g.row.N false in
    dite (ℕ_discrete j i)
    (λ last. ap (get_elem? marks) last ∙ (there marks i false (omega (arith, lt, all)) ∙ ap some c.if-not-marks-i.false))
    (λ other. c.loop-i.invariant j (omega (arith, below, other)))

pub returns-clause-none : goal.returns-clause-none
returns-clause-none g c = λ i lt. (c.present.ensures.marks i lt).0
    (c.loop-i.invariant i (let f = c.loop-i-test.false in omega (arith, lt, f)))
