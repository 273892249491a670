use Rattle.std.proofs.Common.{ℕ, ◌+◌, List, length, take, get_or, refl, sym, ap, ◌∙◌, arith}
use Rattle.std.proofs.lemmas.List.{with_items_is}
use Rattle.snapshot_scan.specs.ChangedItems.{ChangedView}
use Rattle.snapshot_scan.proofs.Shifted.{from_place, notes_each_all, notes_each_full, notes_each_behind}
use Rattle.snapshot_scan.proofs.changed_items.ChangedItems.note_each.Goals as goal

pub write_each-requires-clause-fits : goal.write_each-requires-clause-fits
write_each-requires-clause-fits c = λ k lt. c.requires.room (get_or c.args.items.now k 0) (from_place c.args.items.now k lt)

pub returns-then-self-clause-notes : goal.returns-then-self-clause-notes
returns-then-self-clause-notes c = notes_each_all c.args.shift c.args.items.now c.args.self.now
    (sym (ap (λ (x : ChangedView). x.all) c.self.view_is) ∙ c.if-self.true)

pub returns-then-items-self-clause-notes : goal.returns-then-items-self-clause-notes
returns-then-items-self-clause-notes c = notes_each_full c.args.shift c.args.items.now c.args.self.now _
    (ap (λ (x : ChangedView). x.items) c.self.view_is) refl

pub returns-clause-notes : goal.returns-clause-notes
returns-clause-notes c =
    let xs = c.self.inside.items.items in let ys = c.write_each.new.places in let n = c.self.inside.count in
    let a = c.write_each.auto.places in let b = c.as_mut_slice.ensures.value in let v = c.self.invariant in
    let few = c.if-items-self.false in
    notes_each_behind c.args.shift n (length c.args.items.now) xs ys c.args.items.now c.args.self.now _
    (omega (arith, v.0, v.1, few)) (a ∙ ap length b) refl
    (sym (ap (λ (x : ChangedView). x.items) c.self.view_is))
    (ap (take (n + length c.args.items.now)) (with_items_is c.self.inside.items ys (a ∙ c.as_mut_slice.ensures.len)))
    (ap (λ (x : ChangedView). x.all) c.self.view_is)
    (λ q lt. c.write_each.ensures.before q lt ∙ ap (λ (l : List ℕ). get_or l q 0) b) c.write_each.ensures.written
