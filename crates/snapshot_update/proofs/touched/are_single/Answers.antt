use Rattle.std.proofs.Common.{◌≡◌, ◌<◌, ◌+◌, ℕ, List, Contains, length, take, get_or, sym, ap, ◌∙◌, subst, arith, below_more}
use Rattle.std.proofs.lemmas.List.{get_or_default}
use Rattle.std.proofs.lemmas.List.Sums.{sum_by_more}
use Rattle.std.proofs.lemmas.List.Elements.{Contains-get_or}
use Rattle.ledger_core.specs.declared.op.Op.{Op}
use Rattle.ledger_core.specs.Ops.{width, part, sum_ops}
use Rattle.snapshot_scan.proofs.Words.{take_all}
use Rattle.snapshot_update.proofs.touched.are_single.Goals as goal

-- one operation more that adds nothing there
one_more : (c h k i : ℕ) (ops : List Op) (d : Op) → i < length ops → sum_ops c h (take i ops) k ≡ 0 → part c h (get_or ops i d) k
    ≡ 0
    → sum_ops c h (take (i + 1) ops) k ≡ 0
one_more c h k i ops d lt a b = let s = sum_by_more (λ op. part c h op k) ops i d lt in omega (arith, s, a, b)

pub loop-at-preserved : goal.loop-at-preserved
loop-at-preserved g c =
    let i = c.loop-at.at in let is = c.loop-at.invariant in let yes = c.if-not-is_single.false in let one = c.is_single.ensures in
    let w : ℕ = width g.row.C g.row.H g.row.G in record {
      rises = λ k none. one_more g.row.C g.row.H k i c.args.ops.now _ c.loop-at-test.true
          (is.rises k (λ q lt. none q (omega (arith, lt))))
          (one.rises yes k (λ e. none i (omega arith) (sym e)));
      inside = below_more (λ (q : ℕ). get_or c.args.words.now q 0 < w) i is.inside (one.inside yes);
    }

pub returns : goal.returns
returns g c =
    let is = c.loop-at.invariant in let f = c.loop-at-test.false in let end = c.loop-at.auto.at-end in let e =
    c.if-ops-words.false in
    let words = c.args.words.now in record {
      rises = λ _ k none. ap (λ (l : List Op). sum_ops g.row.C g.row.H l k)
          (sym (take_all c.args.ops.now c.loop-at.at (omega (arith, f, end))))
          ∙ is.rises k (λ q lt same. none (subst (λ (j : ℕ). Contains words j) same
          (Contains-get_or words q 0 (omega (arith, lt, end, e)))));
      inside = λ _ j has. subst (λ (k : ℕ). k < width g.row.C g.row.H g.row.G) (get_or_default words has.0 0 j has.1 ∙ has.2)
          (is.inside has.0 (let lt = has.1 in omega (arith, lt, f, e)));
    }
