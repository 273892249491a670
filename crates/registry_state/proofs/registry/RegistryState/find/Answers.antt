use Rattle.std.proofs.Common.{◌≡◌, ℕ, List, Some, slice_get, Contains, MatchOption, sym, subst}
use Rattle.std.specs.Prelude.{⊤}
use Rattle.registry_state.specs.Replay.{Family, IsNew}
use Rattle.registry_state.specs.Kept.{RegistryView}
use Rattle.registry_state.specs.Calls.{IsFound, IsHandle}
use Rattle.registry_state.proofs.Inside.{is_inside_found, ordered_there}
use Rattle.registry_state.proofs.Making.{read_at, some_at}
use Rattle.registry_state.proofs.registry.RegistryState.find.Goals as goal

pub handle_of-requires : goal.handle_of-requires
handle_of-requires g c =
    ordered_there g.row.C g.row.H g.row.G c.self.inside.families.items _ c.self.invariant.held c.args.family.number
    c.in_ok-it.it.now
    (read_at c.deref.result.now _ c.args.family.number c.in_ok-it.it.now c.deref.ensures.value c.in_ok-it.ensures.lookup.3.0
    c.in_ok-it.ensures.lookup.1)

pub returns-in-Ok-clause-found : goal.returns-in-Ok-clause-found
returns-in-Ok-clause-found g c =
    let it : Family = c.in_ok-it.it.now in
    let there : slice_get c.self.inside.families.items c.args.family.number ≡ Some it =
    read_at c.deref.result.now _ c.args.family.number it c.deref.ensures.value c.in_ok-it.ensures.lookup.3.0
    c.in_ok-it.ensures.lookup.1 in
    subst (λ (r : RegistryView g.row.S.Denot). IsFound r.id r.state.families c.args.family.number c.args.values.now
    c.in-Ok.handle)
    c.self.view_is
    (some_at (λ (family : Family). (slot : ℕ) × Contains family.children (record { values = c.args.values.now; slot = slot })
    × IsHandle c.self.inside.id family.desc slot c.in-Ok.handle) c.self.inside.families.items c.args.family.number it there
    c.in-Ok.ensures.found)

pub returns-in-Ok-clause-inside : goal.returns-in-Ok-clause-inside
returns-in-Ok-clause-inside g c =
    is_inside_found g.row.C g.row.H g.row.G c.self.inside.id c.self.inside.families.items _ c.self.invariant.held
    c.args.family.number
    c.in_ok-it.it.now
    (read_at c.deref.result.now _ c.args.family.number c.in_ok-it.it.now c.deref.ensures.value c.in_ok-it.ensures.lookup.3.0
    c.in_ok-it.ensures.lookup.1)
    c.args.values.now c.in-Ok.handle c.in-Ok.ensures.found

pub returns-in-Err-clause-found : goal.returns-in-Err-clause-found
returns-in-Err-clause-found g c =
    let it : Family = c.in_ok-it.it.now in
    let there : slice_get c.self.inside.families.items c.args.family.number ≡ Some it =
    read_at c.deref.result.now _ c.args.family.number it c.deref.ensures.value c.in_ok-it.ensures.lookup.3.0
    c.in_ok-it.ensures.lookup.1 in
    let known : (l : List Family) → Type 0 = λ l. MatchOption (slice_get l c.args.family.number) ⊤
    (λ (family : Family). IsNew family c.args.values.now) in
    subst (λ (r : RegistryView g.row.S.Denot). known r.state.families) c.self.view_is
    (subst (λ o. MatchOption o ⊤ (λ (family : Family). IsNew family c.args.values.now)) (sym there) c.in-Err.ensures.new)
