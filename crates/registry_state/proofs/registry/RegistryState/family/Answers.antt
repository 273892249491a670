use Rattle.std.proofs.Common.{◌≡◌, ◌≢◌, ◌<◌, List, All, length, slice_get, IsSomeAnd, ap, subst, ◌∙◌, arith}
use Rattle.registry_state.specs.Replay.{Family}
use Rattle.registry_state.specs.Kept.{RegistryView}
use Rattle.registry_state.proofs.Making.{some_within}
use Rattle.registry_state.proofs.registry.RegistryState.family.Goals as goal

pub returns-in-Some-clause-few : goal.returns-in-Some-clause-few
returns-in-Some-clause-few g c =
    let few = c.self.invariant.held.are.few in
    let lt : c.in-Some.number < length c.self.inside.families.items =
    subst (λ (l : List Family). c.in-Some.number < length l) c.deref.ensures.value
    (some_within (λ (it : Family). it.desc.name ≡ c.args.name.now) c.deref.result.now c.in-Some.number c.in-Some.ensures) in
    omega (arith, few, lt)

pub returns-in-Some-clause-found : goal.returns-in-Some-clause-found
returns-in-Some-clause-found g c =
    subst (λ (l : List Family). IsSomeAnd (slice_get l c.in-Some.number) (λ (it : Family). it.desc.name ≡ c.args.name.now))
    (c.deref.ensures.value ∙ ap (λ (r : RegistryView g.row.S.Denot). r.state.families) c.self.view_is) c.in-Some.ensures

pub returns-in-None-clause-found : goal.returns-in-None-clause-found
returns-in-None-clause-found g c =
    subst (All (λ (it : Family). it.desc.name ≢ c.args.name.now))
    (c.deref.ensures.value ∙ ap (λ (r : RegistryView g.row.S.Denot). r.state.families) c.self.view_is) c.in-None.ensures
