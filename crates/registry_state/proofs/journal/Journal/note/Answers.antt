use Rattle.std.proofs.Common.{◌∙◌, ap, ◌∷◌, [], ◌++◌, map}
use Rattle.std.proofs.lemmas.List.{map-append, length-append, length-map}
use Rattle.registry_state.specs.Journal.{Changed}
use Rattle.registry_state.specs.Merged.{merged}
use Rattle.registry_state.specs.Merged.{change_of}
use Rattle.registry_state.proofs.Merging.{noted_change, merged_change}
use Rattle.registry_state.proofs.journal.Journal.note.Goals as goal

pub invariant_of-self-2 : goal.invariant_of-self-2
invariant_of-self-2 g c =
    (c.self.invariant.0, rw (c.in_ok-push.ensures.items, length-append) (noted_change _ _ _ c.self.invariant.1))

pub returns-clause-noted : goal.returns-clause-noted
returns-clause-noted g c =
    ap (λ items. merged (map change_of items) 0 c.self.inside.kept.scrapes) c.in_ok-push.ensures.items
    ∙ ap (λ cs. merged cs 0 c.self.inside.kept.scrapes) (map-append change_of c.self.inside.notes.items (c.args.note ∷ []))
    ∙ merged_change (map change_of c.self.inside.notes.items) 0 c.self.inside.kept.scrapes (change_of c.args.note)
    (rw length-map c.self.invariant.1)
    ∙ ap (λ journal. journal ++ Changed (change_of c.args.note) ∷ []) c.self.view_is
