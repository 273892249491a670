use Rattle.std.proofs.Common.{refl, ap, sym, ◌∙◌}
use Rattle.std.proofs.lemmas.Option.{same_Some}
use Rattle.register_rule.specs.Seats.{board_id}
use Rattle.metric_registry.specs.Naming.{name_of}
use Rattle.registry_state.specs.Journal.{changes}
use Rattle.library_tests.proofs.tests.kept.settling_drops_nothing.Goals as goal

pub settles-requires-clause-some : goal.settles-requires-clause-some
settles-requires-clause-some g c = refl

pub settles-requires-clause-named : goal.settles-requires-clause-named
settles-requires-clause-named g c = λ x e. same_Some _ x e

pub settles-requires-clause-of : goal.settles-requires-clause-of
settles-requires-clause-of g c =
    let made = c.new_state-state.ensures in
    ((λ x e. ap name_of made.scans ∙ same_Some _ x e), made.id ∙ ap board_id (sym made.scans))

pub settles-requires-clause-begins : goal.settles-requires-clause-begins
settles-requires-clause-begins g c = ∣ (changes c.new_state-state.result.journal, refl) ∣₁
