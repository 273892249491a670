use Rattle.std.proofs.Common.{◌≡◌, ℕ, zero, suc, ◌+◌, ◌<◌, List, Bool, true, false, length, get_or, replicate, refl, ap, ◌∙◌}
use Rattle.std.proofs.Common.{lit<, arith}
use Rattle.std.proofs.lemmas.List.{length-replicate}
use mathlib.Core.Logic.{dite}
use native.Mathlib.Decide.{ℕ_discrete}
use mathlib.Core.Option.{some}
use lib.ListN.{get_elem?}
use Rattle.register_rule.proofs.Words.{there}
use Rattle.dirgwako_c.proofs.settling.gathered.Goals as goal

-- marks that are made say nothing
all_false : (n i : ℕ) → i < n → get_elem? {A = Bool} (replicate n false) i ≡ some false
all_false zero i h = absurd (omega (arith, h))
all_false (suc n) zero h = refl
all_false (suc n) (suc i) h = all_false n i (omega (arith, h))

-- the mark of a place
mark_at : (marks : List Bool) (n i : ℕ) (b : Bool) → length marks ≡ n → i < n → get_or marks i false ≡ b → get_elem? marks i ≡
    some b
mark_at marks n i b all lt is = there marks i false (omega (arith, lt, all)) ∙ ap some is

-- one more is made
marked_more : (marks : List Bool) (n i : ℕ) → length marks ≡ n → i < n → get_or marks i false ≡ true
    → ((j : ℕ) → j < i → get_elem? marks j ≡ some true) → (j : ℕ) → j < i + 1 → get_elem? marks j ≡ some true
marked_more marks n i all lt is before j below =
    dite (ℕ_discrete j i) (λ last. ap (get_elem? marks) last ∙ mark_at marks n i true all lt is)
    (λ other. before j (omega (arith, below, other)))

pub mark-requires : goal.mark-requires
mark-requires g c = (lit< tt, (c.requires, (length-replicate g.row.N false, λ i lt. all_false g.row.N i lt)))

pub returns-then-not-marks-worker-clause-apart : goal.returns-then-not-marks-worker-clause-apart
returns-then-not-marks-worker-clause-apart g c =
    let lt = c.loop-worker-test.true in let all = c.mark.auto.marks ∙ length-replicate g.row.N false in (
      c.if-not-mark.ensures.once refl,
      record {
        inside = lt;
        none = (c.if-not-mark.ensures.marks refl c.loop-worker.worker lt).1
            (mark_at c.mark.new.marks g.row.N c.loop-worker.worker false all lt c.if-not-marks-worker.true);
        least = λ j below. (c.if-not-mark.ensures.marks refl j (omega (arith, below, lt))).0 (c.loop-worker.invariant j below);
      },
    )

pub loop-worker-preserved : goal.loop-worker-preserved
loop-worker-preserved g c =
    marked_more c.mark.new.marks g.row.N c.loop-worker.worker (c.mark.auto.marks ∙ length-replicate g.row.N false)
    c.loop-worker-test.true
    c.if-not-marks-worker.false c.loop-worker.invariant

pub returns-clause-all : goal.returns-clause-all
returns-clause-all g c = λ i lt. (c.if-not-mark.ensures.marks refl i lt).0
    (c.loop-worker.invariant i (let f = c.loop-worker-test.false in omega (arith, lt, f)))
