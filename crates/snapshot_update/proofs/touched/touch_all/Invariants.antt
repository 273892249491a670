use Rattle.std.proofs.Common.{◌*◌, take}
use Rattle.ledger_core.specs.Ops.{width, sum_ops}
use Rattle.snapshot_update.specs.Noting.{Touches}
use Rattle.snapshot_update.specs.Noting.{IsRun}
use Rattle.snapshot_update.proofs.Touching.{none}
use Rattle.snapshot_update.proofs.touched.touch_all.Given as goal

abbrev pub invariant-loop-op : goal.invariant-loop-op
invariant-loop-op g l = record {
  touches : Touches (3 * l.op-index) (width g.row.C g.row.H g.row.G) (sum_ops g.row.C g.row.H (take l.op-index l.ops)) none
      l.touched;
  run : IsRun g.row.C g.row.H l.run l.touched;
}
