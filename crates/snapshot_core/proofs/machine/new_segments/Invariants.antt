use Rattle.std.proofs.Common.{◌≡◌, map, replicate}
use Rattle.ledger_core.specs.Ops.{width}
use Rattle.snapshot_core.specs.Machine.{seg_of, blank_of}
use Rattle.snapshot_core.proofs.machine.new_segments.Given as goal

abbrev pub invariant-loop-k : goal.invariant-loop-k
invariant-loop-k g l = map seg_of l.segments.items ≡ replicate l._k (blank_of (width g.row.C g.row.H g.row.G))
