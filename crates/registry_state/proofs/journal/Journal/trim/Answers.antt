use Rattle.std.proofs.Common.{◌∙◌, ap, map}
use Rattle.std.proofs.lemmas.List.{length-map}
use Rattle.registry_state.specs.Journal.{within}
use Rattle.registry_state.specs.Merged.{merged}
use Rattle.registry_state.specs.Merged.{change_of}
use Rattle.registry_state.proofs.Merging.{noted_drop, merged_within}
use Rattle.registry_state.proofs.journal.Journal.trim.Goals as goal

pub invariant_of-self : goal.invariant_of-self
invariant_of-self g c = (c.self.invariant.0, rw c.drop_oldest.ensures.newest (noted_drop _ 0 _ _ c.self.invariant.1))

pub returns : goal.returns
returns g c =
    ap (λ kept. merged (map change_of c.self.inside.notes.items) 0 kept) c.drop_oldest.ensures.newest
    ∙ merged_within (map change_of c.self.inside.notes.items) c.args.window c.self.inside.kept.scrapes
    (rw length-map c.self.invariant.1)
    ∙ ap (within c.args.window) c.self.view_is
