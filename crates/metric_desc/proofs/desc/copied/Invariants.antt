use Rattle.std.proofs.Common.{◌≡◌, take}
use Rattle.metric_desc.proofs.desc.copied.Given as goal

-- the labels so far
abbrev pub invariant-loop-label : goal.invariant-loop-label
invariant-loop-label l = l.copies.items ≡ take l.label-index l.labels
