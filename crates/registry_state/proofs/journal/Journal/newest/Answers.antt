use Rattle.std.proofs.Common.{◌≡◌, ◌∙◌, List, sym, subst, ap, map}
use Rattle.std.specs.Prelude.{Some, None, MatchOption}
use Rattle.register_rule.specs.declared.view.Answer.{Answer}
use Rattle.snapshot_scan.specs.Snapshots.{as_answer}
use Rattle.register_rule.specs.Members.{newest}
use Rattle.registry_state.specs.Journal.{scrapes}
use Rattle.scrape_history.specs.History.{answers_of}
use Rattle.registry_state.specs.Merged.{change_of}
use Rattle.registry_state.proofs.Merging.{merged_scrapes}
use Rattle.registry_state.proofs.journal.Journal.newest.Goals as goal

pub returns : goal.returns
returns g c =
    let seen : answers_of c.self.inside.kept.scrapes ≡ scrapes c.args.self.now =
    sym (merged_scrapes (map change_of c.self.inside.notes.items) 0 c.self.inside.kept.scrapes) ∙ ap scrapes c.self.view_is in
    subst (λ (l : List Answer). MatchOption c.newest.result (newest l ≡ None)
    (λ snapshot. newest l ≡ Some (as_answer snapshot.now))) seen c.newest.ensures
