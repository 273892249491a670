use Rattle.std.proofs.Common.{◌≡◌, ◌++◌, map, take}
use Rattle.std.specs.String.{string_bytes}
use Rattle.metric_desc.proofs.desc.Desc.names.Given as goal

-- the names so far
abbrev pub invariant-loop-suffix : goal.invariant-loop-suffix
invariant-loop-suffix l =
    map string_bytes l.names.items ≡ map (λ suffix. l.self.name ++ suffix)
    (take l.suffix-index (map (λ suffix. suffix.now) l.all))
