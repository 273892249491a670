use Rattle.std.proofs.Common.{refl, ◌≡◌, true, false}
use Rattle.registry_state.proofs.Growing.{held_new, seen_new}
use Rattle.registry_state.proofs.registry.RegistryState.new.Goals as goal

pub returns-then-not-is_window-clause-fault : goal.returns-then-not-is_window-clause-fault
returns-then-not-is_window-clause-fault g c = λ room. let e : false ≡ true = c.if-not-is_window.ensures.1 room in cc

pub returns-in_default-clause-fault : goal.returns-in_default-clause-fault
returns-in_default-clause-fault g c = c.if-not-is_window.ensures.0 refl

pub returns-clause-window : goal.returns-clause-window
returns-clause-window g c = c.if-not-is_window.ensures.0 refl

pub returns-clause-made : goal.returns-clause-made
returns-clause-made g c = seen_new c.args.id c.args.window c.args.source c.in-Ok.journal c.new-2.result.items c.in-Ok.ensures
    c.new-2.ensures.items

pub invariant_of-result : goal.invariant_of-result
invariant_of-result g c =
    held_new _ _ _ _ _ _ _ _ _ c.requires (c.if-not-is_window.ensures.0 refl) c.in-Ok.ensures c.new-2.ensures.items
    c.new-3.ensures.items
