use Rattle.std.proofs.Common.{◌≡◌, ◌++◌, replicate, ◌+◌, ◌≤◌}
use Rattle.std.specs.Vec.{vec_len, vec_capacity}
use Rattle.metrics_program.proofs.jobs.add_times.Given as goal

-- the value stands behind the list as often as the loop has turned, and there is room for the rest
abbrev pub invariant-loop-turn : goal.invariant-loop-turn
invariant-loop-turn g l = (l.list.items ≡ l.fn.list.items ++ replicate l._turn l.value)
    × (vec_len l.list + l.count ≤ vec_capacity l.list + l._turn)
