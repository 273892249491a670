use Rattle.std.proofs.Common.{◌∙◌, ⊎_elim}
use Rattle.ledger_core.specs.Ops.{width}
use Rattle.segment_layout.specs.Layout.{depth}
use Rattle.snapshot_update.specs.BufferImages.{target_of}
use Rattle.snapshot_update.proofs.Filling.{listed_or, all_filled}
use Rattle.snapshot_update.proofs.fills.fill_known.Goals as goal

pub returns-clause-hidden : goal.returns-clause-hidden
returns-clause-hidden g c =
    let first = c.fill_changes.ensures in let second = c.fill_changes-2.ensures in let third = c.fill_changes-3.ensures in
    let long = c.fill_changes-3.auto.hidden
    ∙ (c.fill_changes-2.auto.hidden ∙ (c.fill_changes.auto.hidden ∙ c.requires.lengths.0)) in
    all_filled c.fill_changes-3.new.hidden (target_of c.args.version.now) (depth g.row.N (width g.row.C g.row.H g.row.G)) long
    c.requires.lengths.1 (λ j lt.
    ⊎_elim (third.filled j) (λ not_touched. third.kept j (
    ⊎_elim (second.filled j) (λ not_late. second.kept j (
    ⊎_elim (first.filled j) (λ not_recent. first.kept j (c.requires.known j lt not_recent not_late not_touched))
    (listed_or c.args.recent.now.items j)))
    (listed_or c.args.late.now.items j)))
    (listed_or c.args.touched.now.items j))
