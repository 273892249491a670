use Rattle.std.proofs.Common.{◌≡◌, ℕ, ◌+◌, ◌*◌, subst, arith}
use Rattle.ledger_core.specs.Ops.{width, only}
use Rattle.snapshot_update.specs.Noting.{Touches}
use Rattle.snapshot_update.proofs.Touching.{touches_one, touches_few, touches_three, run_still}
use Rattle.snapshot_update.proofs.touched.touch_one.Goals as goal

pub returns-in-Inc-clause-touches : goal.returns-in-Inc-clause-touches
returns-in-Inc-clause-touches g c =
    let h = rw c.in-Inc.is at c.requires.within in
    rw c.in-Inc.is (touches_few 1 3 _ _ _ _ (omega arith)
    (touches_one _ c.in-Inc.counter c.in-Inc.by _ _ (omega (arith, h)) c.note.ensures.notes))

pub returns-in-Inc-clause-run : goal.returns-in-Inc-clause-run
returns-in-Inc-clause-run g c = run_still g.row.C g.row.H c.args.run.now c.args.touched.now c.note.new.self
    c.note.ensures.notes.listed c.note.ensures.notes.keeps c.requires.run

pub returns-in-Observe-clause-touches : goal.returns-in-Observe-clause-touches
returns-in-Observe-clause-touches g c =
    let f = g.row.C + 27 * c.in-Observe.hist in let w : ℕ = width g.row.C g.row.H g.row.G in
    let two = c.touch_hist.new.touched in let new = c.touch_bucket.new.touched in
    let same : c.touch_hist.new.run.hist ≡ c.in-Observe.hist = c.touch_hist.ensures.hist in
    rw c.in-Observe.is (touches_three w (f + c.in-Observe.place) (f + 25) (f + 26) 1 c.in-Observe.value 1 c.args.touched.now two
    new
    (c.touch_hist.ensures.touches c.in-Observe.value)
    (subst (λ (k : ℕ). Touches 1 w (only (g.row.C + 27 * k + c.in-Observe.place) 1) two new) same c.touch_bucket.ensures.touches))

pub returns-in-Observe-clause-run : goal.returns-in-Observe-clause-run
returns-in-Observe-clause-run g c = c.touch_bucket.ensures.run

pub returns-in-Up-clause-touches : goal.returns-in-Up-clause-touches
returns-in-Up-clause-touches g c =
    let h = rw c.in-Up.is at c.requires.within in
    rw c.in-Up.is (touches_few 1 3 _ _ _ _ (omega arith)
    (touches_one _ (g.row.C + 27 * g.row.H + 2 * c.in-Up.gauge) c.in-Up.by _ _ (omega (arith, h)) c.note-in-Up.ensures.notes))

pub returns-in-Up-clause-run : goal.returns-in-Up-clause-run
returns-in-Up-clause-run g c = run_still g.row.C g.row.H c.args.run.now c.args.touched.now c.note-in-Up.new.self
    c.note-in-Up.ensures.notes.listed c.note-in-Up.ensures.notes.keeps c.requires.run

pub returns-in-Down-clause-touches : goal.returns-in-Down-clause-touches
returns-in-Down-clause-touches g c =
    let h = rw c.in-Down.is at c.requires.within in
    rw c.in-Down.is (touches_few 1 3 _ _ _ _ (omega arith)
    (touches_one _ (g.row.C + 27 * g.row.H + 2 * c.in-Down.gauge + 1) c.in-Down.by _ _ (omega (arith, h))
    c.note-in-Down.ensures.notes))

pub returns-in-Down-clause-run : goal.returns-in-Down-clause-run
returns-in-Down-clause-run g c = run_still g.row.C g.row.H c.args.run.now c.args.touched.now c.note-in-Down.new.self
    c.note-in-Down.ensures.notes.listed c.note-in-Down.ensures.notes.keeps c.requires.run
