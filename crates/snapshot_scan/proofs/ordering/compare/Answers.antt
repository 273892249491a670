use Rattle.std.proofs.Common.{sym, arith}
use Rattle.snapshot_scan.proofs.Words.{same_words}
use Rattle.snapshot_scan.proofs.Comparing.{smaller, swapped}
use Rattle.snapshot_scan.proofs.ordering.compare.Goals as goal

pub returns-then-one-k : goal.returns-then-one-k
returns-then-one-k c = smaller c.args.one.now c.args.other.now c.loop-k.k c.requires.all c.loop-k-test.true c.if-one-k.true
    c.requires.comparable

pub returns-then-other-k : goal.returns-then-other-k
returns-then-other-k c =
    let lt = c.loop-k-test.true in let all = c.requires.all in
    let t = smaller c.args.other.now c.args.one.now c.loop-k.k (sym all) (omega (arith, lt, all)) c.if-other-k.true
    (swapped c.args.one.now c.args.other.now c.requires.comparable) in
    (t.0, λ e. t.1 (sym e))

pub returns : goal.returns
returns c = let f = c.loop-k-test.false in
    same_words c.args.one.now c.args.other.now c.requires.all (λ k lt. c.loop-k.invariant k (omega (arith, lt, f)))
