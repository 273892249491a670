use Rattle.std.proofs.Common.{◌≡◌, ◌+◌, ℕ, ap, sym, ◌∙◌, subst, arith}
use Rattle.ledger_core.specs.Ops.{width}
use Rattle.snapshot_scan.specs.ChangedItems.{NotesEach}
use Rattle.snapshot_update.specs.Known.{NotesRange}
use Rattle.snapshot_update.proofs.Following.{lists_moved, lists_all}
use Rattle.snapshot_update.proofs.known.list_changed_totals.Goals as goal

pub note_each-requires : goal.note_each-requires
note_each-requires g c = record {
  room = λ j has. let lt = c.requires.words j has in
      let e = c.item_at-numbers.ensures.place in let few = c.requires.geometry.workers.1 in
      let s = c.requires.geometry.slots in let x = s.counters in let y = s.histograms in let z = s.gauges in
      omega (arith, lt, e, few, x, y, z);
}

pub returns-then-is_all : goal.returns-then-is_all
returns-then-is_all g c =
    let n : ℕ = g.row.N in let w : ℕ = width g.row.C g.row.H g.row.G in
    let first : c.item_at-numbers.result + 1 ≡ w + 1 = ap (λ (k : ℕ). k + 1) c.item_at-numbers.ensures.place in
    lists_all n w c.args.changed_totals.now c.args.late.now c.note_range.new.to c.note_each.new.to c.note_all.new.self
    c.requires.words
    c.note_all.ensures.all c.note_all.ensures.items
    (subst (λ (k : ℕ). NotesRange k n c.args.late.now c.note_range.new.to) first c.note_range.ensures)
    (subst (λ (k : ℕ). NotesEach (k + n) c.args.changed_totals.now.items c.note_range.new.to c.note_each.new.to) first
    c.note_each.ensures)

pub returns-else-is_all : goal.returns-else-is_all
returns-else-is_all g c =
    let n : ℕ = g.row.N in let w : ℕ = width g.row.C g.row.H g.row.G in
    let first : c.item_at-numbers.result + 1 ≡ w + 1 = ap (λ (k : ℕ). k + 1) c.item_at-numbers.ensures.place in
    lists_moved n w c.args.changed_totals.now c.args.late.now c.note_range.new.to c.note_each.new.to c.requires.words
    (sym c.is_all.ensures ∙ c.if-is_all.false)
    (subst (λ (k : ℕ). NotesRange k n c.args.late.now c.note_range.new.to) first c.note_range.ensures)
    (subst (λ (k : ℕ). NotesEach (k + n) c.args.changed_totals.now.items c.note_range.new.to c.note_each.new.to) first
    c.note_each.ensures)
