-- What a worker is to count.
use Rattle.std.specs.Prelude.{ℕ}
use Rattle.bucket_math.specs.Bounds.{place_of}
use Rattle.ledger_core.specs.declared.op.Op.{Op}
use Rattle.ledger_core.specs.declared.op.Op.TheVariants as op
use Rattle.snapshot_update.specs.declared.job_op.JobOp.{JobOp}
use Rattle.snapshot_update.specs.declared.job_op.JobOp.TheVariants.{Inc, Observe, Up, Down}

-- the operation: on the slot that the handle names. A value is counted in its bucket by the handle's bounds
abbrev pub op_of : JobOp → Op
op_of (Inc counter by) = op.Inc counter.slot by
op_of (Observe hist value) = op.Observe hist.slot (place_of hist.bounds value) value
op_of (Up gauge by) = op.Up gauge.slot by
op_of (Down gauge by) = op.Down gauge.slot by

-- the registry whose id the handle carries
abbrev pub registry_of : JobOp → ℕ
registry_of (Inc counter by) = counter.registry
registry_of (Observe hist value) = hist.registry
registry_of (Up gauge by) = gauge.registry
registry_of (Down gauge by) = gauge.registry
