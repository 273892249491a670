use Rattle.std.proofs.lemmas.Bool.{iff_false}
use Rattle.bucket_math.proofs.Rising.{bounds_more}
use Rattle.bucket_math.proofs.bounds.first_bad.Goals as goal

pub loop-at-preserved : goal.loop-at-preserved
loop-at-preserved c =
    bounds_more c.args.bounds.now c.loop-at.at c.loop-at-test.true c.loop-at.invariant
    (iff_false c.is_bad.ensures c.if-is_bad.false)
