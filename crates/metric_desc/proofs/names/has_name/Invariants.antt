use Rattle.std.proofs.Common.{◌≢◌, ◌++◌, ℕ, ◌<◌, List, get_or, map}
use Rattle.metric_desc.proofs.names.has_name.Given as goal

-- no name of the family before this place is the one that is sought
abbrev pub invariant-loop-own : goal.invariant-loop-own
invariant-loop-own l =
    (k : ℕ) (d : List ℕ) → k < l.own-index → l.desc.name ++ get_or (map (λ own. own.now) l.own-items) k d ≢ l.name ++ l.suffix
