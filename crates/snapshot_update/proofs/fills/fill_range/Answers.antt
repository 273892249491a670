use Rattle.std.proofs.Common.{◌≡◌, ℕ, ◌<◌, ◌+◌, length, sym, ◌∙◌, subst, arith}
use Rattle.snapshot_scan.specs.ChangedItems.{ChangedView}
use Rattle.snapshot_update.specs.BufferImages.{target_of}
use Rattle.snapshot_update.specs.Noting.{SoFar}
use Rattle.snapshot_update.proofs.Filling.{filled_on, so_far_same, so_far_noted, below_set}
use Rattle.snapshot_update.proofs.fills.fill_range.Goals as goal
use Rattle.snapshot_update.proofs.fills.fill_range.Goals.{then-shown-item, else-shown-item}

pub loop-item-preserved : goal.loop-item-preserved
loop-item-preserved g c =
    let is = c.loop-item.invariant in let n = c.loop-item.item in let target = target_of c.args.version.now in
    let lt : n < length c.loop-item.hidden = (let e = c.loop-item.auto.hidden in let t = c.loop-item-test.true in
    omega (arith, e, t, c.requires.inside.1, c.requires.lengths.0)) in
    record {
      fills = filled_on c.args.board.now c.loop-item.hidden c.fill_item.new.hidden c.args.seat.now c.loop-item.seat
          c.fill_item.new.seat is.fills c.fill_item.ensures.fills;
      filled = below_set c.loop-item.hidden target c.fill_item.new.hidden n c.word-word.result lt c.fill_item.ensures.hidden
          c.word-word.ensures.word is.filled;
      noted = elim c.if-shown-item.branch [
        | then-shown-item w ↦ subst (λ (x : ChangedView). SoFar (n + 1) x c.args.shown.now target) (sym w.recent-is)
            (so_far_noted n c.loop-item.recent w.note.new.self c.args.shown.now target
            (λ e. w.if-shown-item.true (e ∙ sym c.word-word.ensures.word)) w.note.ensures.notes is.noted)
        | else-shown-item w ↦ subst (λ (x : ChangedView). SoFar (n + 1) x c.args.shown.now target) (sym w.recent-is)
            (so_far_same n c.loop-item.recent c.args.shown.now target (w.if-shown-item.false ∙ c.word-word.ensures.word) is.noted)
      ];
    }

pub returns-clause-filled : goal.returns-clause-filled
returns-clause-filled g c = λ j lt. let f = c.loop-item-test.false in c.loop-item.invariant.filled j (omega (arith, f, lt))

pub returns-clause-noted : goal.returns-clause-noted
returns-clause-noted g c = let f = c.loop-item-test.false in let e = c.loop-item.auto.item-end in let r = c.requires.inside.0 in
    let same : c.loop-item.item ≡ c.args.to = omega (arith, f, e, r) in
    subst (λ (n : ℕ). SoFar n c.loop-item.recent c.args.shown.now (target_of c.args.version.now)) same c.loop-item.invariant.noted
