use Rattle.std.proofs.Common.{below_more, rules}
use Rattle.metric_names.proofs.spelling.first_wrong.Goals as goal

pub loop-place-preserved : goal.loop-place-preserved
loop-place-preserved c = below_more _ _ c.loop-place.invariant (search rules)
