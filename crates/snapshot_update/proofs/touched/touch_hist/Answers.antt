use Rattle.std.proofs.Common.{◌+◌, ◌*◌, arith}
use Rattle.ledger_core.specs.Ops.{width}
use Rattle.snapshot_update.proofs.Touching.{touches_two}
use Rattle.snapshot_update.proofs.touched.touch_hist.Goals as goal

pub returns-clause-touches : goal.returns-clause-touches
returns-clause-touches g c = λ by.
    let h = c.requires.within in let f = g.row.C + 27 * c.args.hist in
    touches_two (width g.row.C g.row.H g.row.G) (f + 25) (f + 26) by 1 c.args.touched.now c.note.new.self c.note-2.new.self
    (omega (arith, h)) (omega (arith, h)) c.note.ensures.notes c.note-2.ensures.notes
