use Rattle.std.proofs.Common.{◌≡◌, ◌+◌, ◌-◌, ℕ, subst, arith}
use Rattle.snapshot_scan.specs.ChangedItems.{Notes}
use Rattle.snapshot_update.specs.Known.{NotesRange}
use Rattle.snapshot_update.proofs.Following.{range_none, range_more}
use Rattle.snapshot_update.proofs.listing.note_range.Goals as goal

pub loop-item-init : goal.loop-item-init
loop-item-init c = let e : 0 ≡ c.args.first - c.args.first = omega arith in
    subst (λ (n : ℕ). NotesRange c.args.first n c.args.to.now c.args.to.now) e (range_none c.args.first c.args.to.now)

pub loop-item-preserved : goal.loop-item-preserved
loop-item-preserved c =
    let first = c.args.first in let item = c.loop-item.item in let n = item - first in
    let above = c.loop-item.auto.item in
    let here : item ≡ first + n = omega (arith, above) in let next : n + 1 ≡ item + 1 - first = omega (arith, above) in
    subst (λ (k : ℕ). NotesRange first k c.args.to.now c.note.new.self) next
    (range_more first n c.args.to.now c.loop-item.to c.note.new.self c.loop-item.invariant
    (subst (λ (k : ℕ). Notes k c.loop-item.to c.note.new.self) here c.note.ensures.notes))

pub returns : goal.returns
returns c =
    let first = c.args.first in let item = c.loop-item.item in
    let above = c.loop-item.auto.item in let end = c.loop-item.auto.item-end in let f = c.loop-item-test.false in
    let e : item - first ≡ c.args.count = omega (arith, above, end, f) in
    subst (λ (k : ℕ). NotesRange first k c.args.to.now c.loop-item.to) e c.loop-item.invariant
