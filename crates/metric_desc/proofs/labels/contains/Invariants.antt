use Rattle.std.proofs.Common.{◌≢◌, ℕ, ◌<◌, List, get_or}
use Rattle.metric_desc.proofs.labels.contains.Given as goal

-- no label before this place is the name
abbrev pub invariant-loop-label : goal.invariant-loop-label
invariant-loop-label l = (k : ℕ) (d : List ℕ) → k < l.label-index → get_or l.labels k d ≢ l.name
