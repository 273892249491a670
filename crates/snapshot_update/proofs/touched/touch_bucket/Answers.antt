use Rattle.std.proofs.Common.{◌+◌, ◌*◌, arith}
use Rattle.ledger_core.specs.Ops.{width}
use Rattle.snapshot_update.proofs.Touching.{touches_one, run_more}
use Rattle.snapshot_update.proofs.touched.touch_bucket.Goals as goal

pub returns-clause-touches : goal.returns-clause-touches
returns-clause-touches g c =
    let h = c.requires.within in
    touches_one (width g.row.C g.row.H g.row.G) (g.row.C + 27 * c.args.run.now.hist + c.args.place) 1 c.args.touched.now
    c.note.new.self (omega (arith, h.0, h.1)) c.note.ensures.notes

pub returns-clause-run : goal.returns-clause-run
returns-clause-run g c = run_more g.row.C g.row.H c.args.place c.args.run.now c.add.new.self c.args.touched.now c.note.new.self
    c.add.ensures.hist c.add.ensures.others c.note.ensures.notes c.requires.run
