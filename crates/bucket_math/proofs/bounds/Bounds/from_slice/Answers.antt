use Rattle.bucket_math.proofs.Made.{inside_made}
use Rattle.bucket_math.proofs.bounds.Bounds.from_slice.Goals as goal

pub invariant_of-result : goal.invariant_of-result
invariant_of-result c = rw c.copy_from_slice.ensures.after (inside_made c.args.bounds.now c.in_default.ensures)
