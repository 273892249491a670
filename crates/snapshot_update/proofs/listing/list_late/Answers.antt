use Rattle.std.proofs.Common.{◌≡◌, ◌⊎◌, inl, inr, ⊎_elim, ◌+◌, ℕ, List, [], Contains, subst}
use Rattle.snapshot_scan.specs.ChangedItems.{ChangedView, Notes, NotesEach}
use Rattle.snapshot_scan.proofs.Noted.{none_listed}
use Rattle.snapshot_update.proofs.listing.list_late.Goals as goal

-- after a clear list has noted one item and those of another list
only_these : (number shift : ℕ) (items : List ℕ) (none one both : ChangedView) → none.items ≡ [] → Notes number none one
    → NotesEach shift items one both
    → (j : ℕ) → Contains both.items j → (j ≡ number) ⊎ ((k : ℕ) × Contains items k × (j ≡ k + shift))
only_these number shift items none one both empty a b j has = ⊎_elim
    (λ o. ⊎_elim (λ z. absurd (none_listed j (subst (λ (l : List ℕ). Contains l j) empty z))) (λ e. inl e) (a.others j o))
    (λ t. inr t) (b.others j has)

pub returns-then-not-known-clause-others : goal.returns-then-not-known-clause-others
returns-then-not-known-clause-others c = λ j has. only_these c.args.number_item c.args.totals_at c.args.touched.now.items
    c.clear.new.self
    c.note.new.self c.note_each.new.to c.clear.ensures.none.1 c.note.ensures.notes c.note_each.ensures
    j (subst (λ (l : List ℕ). Contains l j) c.note_all.ensures.items has)

pub returns-else-not-known-clause-others : goal.returns-else-not-known-clause-others
returns-else-not-known-clause-others c = only_these c.args.number_item c.args.totals_at c.args.touched.now.items c.clear.new.self
    c.note.new.self c.note_each.new.to c.clear.ensures.none.1 c.note.ensures.notes c.note_each.ensures
