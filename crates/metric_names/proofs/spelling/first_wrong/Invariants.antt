use Rattle.std.proofs.Common.{ℕ, ◌<◌, IsTrue, slice_index}
use Rattle.metric_names.specs.Spelling.{name_takes}
use Rattle.metric_names.proofs.spelling.first_wrong.Given as goal

-- the name may have each byte before this place
abbrev pub invariant-loop-place : goal.invariant-loop-place
invariant-loop-place l = (k : ℕ) → k < l.place → IsTrue (name_takes l.colon k (slice_index l.bytes k))
