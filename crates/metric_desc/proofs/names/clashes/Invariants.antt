use Rattle.std.proofs.Common.{◌++◌, ℕ, ◌<◌, List, get_or, map, Contains}
use Rattle.metric_desc.specs.Desc.{names_of}
use Rattle.metric_desc.proofs.names.clashes.Given as goal

-- no name of the one family before this place is a name of the other
abbrev pub invariant-loop-suffix : goal.invariant-loop-suffix
invariant-loop-suffix l =
    (k : ℕ) (d : List ℕ) → k < l.suffix-index
    → Contains (names_of l.b) (l.a.name ++ get_or (map (λ suffix. suffix.now) l.suffix-items) k d) → ⊥
