use Rattle.std.proofs.Common.{◌≢◌, ℕ, ◌<◌, List, get_or}
use Rattle.metric_desc.specs.Histogram.{le}
use Rattle.metric_desc.proofs.labels.has_le.Given as goal

-- no label before this place is `le`
abbrev pub invariant-loop-label : goal.invariant-loop-label
invariant-loop-label l = (k : ℕ) (d : List ℕ) → k < l.label-index → get_or l.labels k d ≢ le
