use Rattle.std.proofs.Common.{◌<◌, ℕ, get_or}
use Rattle.bucket_math.proofs.bounds.Bounds.place.Given as goal

abbrev pub invariant-loop-place : goal.invariant-loop-place
invariant-loop-place l = (i : ℕ) → i < l.place → get_or l.bounds i 0 < l.value
