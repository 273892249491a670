use Rattle.std.proofs.Common.{refl, ap, ◌≡◌, ◌∙◌, length, true, false}
use Rattle.registry_state.specs.Journal.{within}
use Rattle.registry_state.specs.Faults.{IsWindow}
use Rattle.registry_state.specs.Kept.{RegistryView}
use Rattle.registry_state.proofs.Windowed.{held_window, seen_window}
use Rattle.registry_state.proofs.registry.RegistryState.set_window.Goals as goal

pub returns-then-not-is_window-clause-refused : goal.returns-then-not-is_window-clause-refused
returns-then-not-is_window-clause-refused g c = λ room. let e : false ≡ true = c.if-not-is_window.ensures.1 room in cc

pub invariant_of-self : goal.invariant_of-self
invariant_of-self g c =
    held_window _ _ _ _ _ _ _ _ _ _ c.self.invariant _ _ (c.if-not-is_window.ensures.0 refl) c.trim.ensures

pub returns-clause-window : goal.returns-clause-window
returns-clause-window g c = c.if-not-is_window.ensures.0 refl

pub returns-clause-set : goal.returns-clause-set
returns-clause-set g c =
    let room : IsWindow c.args.window = c.if-not-is_window.ensures.0 refl in
    seen_window c.self.inside.id c.args.window c.self.inside.source c.self.inside.journal c.trim.new.self
    c.self.inside.families.items room.0 c.trim.ensures
    ∙ ap (λ (r : RegistryView g.row.S.Denot). record r { window = c.args.window; journal = within c.args.window r.journal })
    c.self.view_is

pub returns-clause-count : goal.returns-clause-count
returns-clause-count g c = c.len.ensures ∙ ap length c.kept.ensures
