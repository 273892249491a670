use Rattle.std.proofs.Common.{◌≡◌, ◌≢◌, ◌<◌, ℕ, List, length, All, ap, sym, subst, ◌∙◌}
use Rattle.registry_state.specs.Journal.{Registered}
use Rattle.registry_state.specs.Replay.{Family, IsApart}
use Rattle.registry_state.specs.Kept.{RegistryView}
use Rattle.registry_state.specs.Held.{IsPlaceOfName}
use Rattle.registry_state.specs.Calls.{changed}
use Rattle.registry_state.proofs.Growing.{held_same, held_more, seen_changed}
use Rattle.registry_state.proofs.Ordered.{names_differ}
use Rattle.registry_state.proofs.registry.RegistryState.add.Goals as goal

pub place_of_name-place-requires-clause-new : goal.place_of_name-place-requires-clause-new
place_of_name-place-requires-clause-new g c =
    let families : c.args.self.now.state.families ≡ c.deref.result.now =
    sym (c.deref.ensures.value ∙ ap (λ (r : RegistryView g.row.S.Denot). r.state.families) c.self.view_is) in
    let name : c.as_str.result.now ≡ c.args.desc.name = c.as_str.ensures.text ∙ c.name.ensures in
    subst (λ n. All (λ (f : Family). f.desc.name ≢ n) c.deref.result.now) (sym name)
    (subst (λ (l : List Family). All (λ (f : Family). f.desc.name ≢ c.args.desc.name) l) families
    (names_differ _ c.args.desc c.requires.1))

pub invariant_of-self : goal.invariant_of-self
invariant_of-self g c =
    let same = c.in_err-push_noted.ensures.unchanged in
    held_same _ _ _ _ _ _ _ _ _ _ c.self.invariant _ _ _ same.0 same.1 same.2

pub invariant_of-self-2 : goal.invariant_of-self-2
invariant_of-self-2 g c =
    let put = c.in_ok-push_noted.ensures in
    let same : c.args.self.now.state.families ≡ c.self.inside.families.items =
    sym (ap (λ (r : RegistryView g.row.S.Denot). r.state.families) c.self.view_is) in
    let name : c.as_str.result.now ≡ c.args.desc.name = c.as_str.ensures.text ∙ c.name.ensures in
    let accepted : (length c.self.inside.families.items < 128) × IsApart c.self.inside.families.items c.args.desc =
    subst (λ (l : List Family). (length l < 128) × IsApart l c.args.desc) same c.requires in
    let at : IsPlaceOfName c.self.inside.families.items c.self.inside.order.items c.args.desc.name c.place_of_name-place.result =
    subst (λ (l : List Family). IsPlaceOfName l c.self.inside.order.items c.args.desc.name c.place_of_name-place.result)
    c.deref.ensures.value
    (subst (λ (o : List ℕ). IsPlaceOfName c.deref.result.now o c.args.desc.name c.place_of_name-place.result)
    c.deref-2.ensures.value
    (subst (λ (t : List ℕ). IsPlaceOfName c.deref.result.now c.deref-2.result.now t c.place_of_name-place.result) name
    c.place_of_name-place.ensures)) in
    held_more _ _ _ _ _ _ _ _ _ _ c.self.invariant c.args.desc c.place_of_name-place.result _ _ _ accepted at put.noted put.pushed
    put.placed

pub returns-clause-registered : goal.returns-clause-registered
returns-clause-registered g c =
    let put = c.in_ok-push_noted.ensures in
    seen_changed _ _ _ _ _ _ _ (Registered c.args.desc) put.noted put.pushed
    ∙ ap (changed (Registered c.args.desc)) c.self.view_is
