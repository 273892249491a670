use Rattle.std.proofs.Common.{◌≡◌, map, replicate}
use Rattle.ledger_core.specs.Ops.{width}
use Rattle.snapshot_core.specs.Machine.{act_of, idle_of}
use Rattle.snapshot_core.proofs.machine.new_actors.Given as goal

abbrev pub invariant-loop-k : goal.invariant-loop-k
invariant-loop-k g l = map act_of l.actors.items ≡ replicate l._k (idle_of (width g.row.C g.row.H g.row.G) l.n)
