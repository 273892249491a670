use Rattle.std.proofs.Common.{⊎_elim}
use Rattle.ledger_core.specs.Ops.{width}
use Rattle.snapshot_update.proofs.Touching.{touches_more}
use Rattle.snapshot_scan.proofs.Noted.{none_listed}
use Rattle.snapshot_update.proofs.touched.touch_all.Goals as goal

pub loop-op-preserved : goal.loop-op-preserved
loop-op-preserved g c = record {
  touches = touches_more g.row.C g.row.H (width g.row.C g.row.H g.row.G) c.loop-op.touched c.touch_one.new.touched c.args.ops.now
      c.loop-op.op-index _ c.loop-op-test.true c.loop-op.invariant.touches c.touch_one.ensures.touches;
  run = c.touch_one.ensures.run;
}

pub returns-clause-inside : goal.returns-clause-inside
returns-clause-inside g c = λ j h. ⊎_elim (λ was. absurd (none_listed j was)) (λ lt. lt) (c.loop-op.invariant.touches.inside j h)
