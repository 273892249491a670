use Rattle.std.proofs.Common.{sym, arith}
use Rattle.snapshot_scan.proofs.Asking.{above_all, not_above}
use Rattle.snapshot_scan.proofs.asks.is_above.Goals as goal

pub returns-then-vector-k : goal.returns-then-vector-k
returns-then-vector-k c = sym (not_above c.args.floor.now c.args.vector.now c.loop-k.k c.loop-k-test.true c.if-vector-k.true)

pub returns : goal.returns
returns c = let f = c.loop-k-test.false in
    sym (above_all c.args.floor.now c.args.vector.now c.requires (λ k lt. c.loop-k.invariant k (omega arith)))
