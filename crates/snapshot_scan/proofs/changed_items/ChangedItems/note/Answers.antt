use Rattle.std.proofs.Common.{sym, ap, ◌∙◌, arith, ◌∷◌, ◌++◌, [], length, take, true, subst}
use Rattle.std.specs.List.{Contains}
use Rattle.std.proofs.lemmas.List.{take_more_set, length-take-le}
use Rattle.snapshot_scan.specs.ChangedItems.{ChangedView}
use Rattle.snapshot_scan.proofs.Noted.{notes_all, notes_again, notes_full, notes_more, last_there}
use Rattle.snapshot_scan.proofs.changed_items.ChangedItems.note.Goals as goal

pub returns-then-self-clause-notes : goal.returns-then-self-clause-notes
returns-then-self-clause-notes c = notes_all c.args.item c.args.self.now (sym (ap (λ (x : ChangedView). x.all) c.self.view_is)
    ∙ c.if-self.true)

pub returns-then-index-item-clause-notes : goal.returns-then-index-item-clause-notes
returns-then-index-item-clause-notes c = notes_again c.args.item c.args.self.now
    (subst (λ (x : ChangedView). Contains x.items c.args.item) c.self.view_is
    (subst (Contains (take c.self.inside.count c.self.inside.items.items)) c.if-index-item.true
    (last_there c.self.inside.items.items c.self.inside.count c.index.result.now (omega arith) (omega arith) c.index.ensures)))

pub returns-then-self-eq-ROOM-clause-notes : goal.returns-then-self-eq-ROOM-clause-notes
returns-then-self-eq-ROOM-clause-notes c = notes_full c.args.item c.args.self.now _ (ap (λ
    (x : ChangedView). x.items) c.self.view_is)
    (λ _. true)
    (let long = length-take-le c.self.inside.count c.self.inside.items.items (omega arith) in
    let same = ap (λ (x : ChangedView). length x.items) c.self.view_is in omega arith)

pub returns-clause-notes : goal.returns-clause-notes
returns-clause-notes c = notes_more c.args.item c.args.self.now _
    (take_more_set c.self.inside.items.items c.self.inside.count c.args.item (omega arith)
    ∙ ap (λ (x : ChangedView). x.items ++ c.args.item ∷ []) c.self.view_is)
    (ap (λ (x : ChangedView). x.all) c.self.view_is)
