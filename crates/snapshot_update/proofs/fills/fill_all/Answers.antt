use Rattle.std.proofs.Common.{◌∙◌, arith}
use Rattle.ledger_core.specs.Ops.{width}
use Rattle.segment_layout.specs.Layout.{depth}
use Rattle.snapshot_update.specs.BufferImages.{target_of}
use Rattle.snapshot_update.proofs.Filling.{all_filled}
use Rattle.snapshot_update.proofs.fills.fill_all.Goals as goal

pub returns-clause-hidden : goal.returns-clause-hidden
returns-clause-hidden g c =
    let a = c.fill_range.auto.hidden in let b = c.fill_range-2.auto.hidden in let d = c.fill_range-3.auto.hidden in
    all_filled c.fill_range-3.new.hidden (target_of c.args.version) (depth g.row.N (width g.row.C g.row.H g.row.G))
    (d ∙ (b ∙ (a ∙ c.requires.lengths.0))) c.requires.lengths.2
    (λ j lt. c.fill_range-3.ensures.filled j (omega (arith, lt, a, b, d, c.requires.lengths.0)))

pub returns-clause-inside : goal.returns-clause-inside
returns-clause-inside g c = λ j h. let lt = c.fill_range-3.ensures.noted.inside j h in
    let a = c.fill_range.auto.hidden in let b = c.fill_range-2.auto.hidden in omega (arith, lt, a, b, c.requires.lengths.0)
