use Rattle.std.proofs.Common.{◌∙◌, sym, ap, map}
use Rattle.registry_state.specs.Journal.{scrapes}
use Rattle.registry_state.specs.Merged.{change_of}
use Rattle.registry_state.proofs.Merging.{merged_scrapes}
use Rattle.registry_state.proofs.journal.Journal.kept.Goals as goal

pub returns : goal.returns
returns g c = sym (merged_scrapes (map change_of c.self.inside.notes.items) 0 c.self.inside.kept.scrapes)
    ∙ ap scrapes c.self.view_is
