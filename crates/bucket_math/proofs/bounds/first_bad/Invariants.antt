use Rattle.std.proofs.Common.{take}
use Rattle.bucket_math.specs.Bounds.{AreBounds}
use Rattle.bucket_math.proofs.bounds.first_bad.Given as goal

abbrev pub invariant-loop-at : goal.invariant-loop-at
invariant-loop-at l = AreBounds (take l.at l.bounds)
