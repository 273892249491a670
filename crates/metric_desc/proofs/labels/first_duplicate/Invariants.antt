use Rattle.std.proofs.Common.{take}
use Rattle.metric_desc.specs.Labels.{AreDistinct}
use Rattle.metric_desc.proofs.labels.first_duplicate.Given as goal

-- the labels before this place are distinct
abbrev pub invariant-loop-at : goal.invariant-loop-at
invariant-loop-at l = AreDistinct (take l.at l.labels)
