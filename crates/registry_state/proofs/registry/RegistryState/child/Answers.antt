use Rattle.std.proofs.Common.{rules, ◌≡◌, Some, slice_get, length, Contains, refl, ap, sym, subst, ◌∙◌, inl}
use Rattle.metric_desc.specs.Desc.{Descriptor}
use Rattle.registry_state.specs.Replay.{Family}
use Rattle.registry_state.specs.Kept.{RegistryView}
use Rattle.registry_state.specs.Held.{IsPlaceOfValues}
use Rattle.registry_state.specs.Faults.{IsMissingChild}
use Rattle.registry_state.specs.Calls.{IsHandle, IsGiven}
use Rattle.registry_state.proofs.Inside.{is_inside_found, ordered_there}
use Rattle.registry_state.proofs.Making.{read_at, some_at}
use Rattle.registry_state.proofs.registry.RegistryState.child.Goals as goal

pub handle_of-requires : goal.handle_of-requires
handle_of-requires g c =
    let it : Family = c.in-Some.it.now in
    ordered_there g.row.C g.row.H g.row.G c.self.inside.families.items _ c.self.invariant.held c.args.family.number it
    (read_at c.deref.result.now _ c.args.family.number it c.deref.ensures.value c.in-Some.ensures.lookup.3.0
    c.in-Some.ensures.lookup.1)

pub make-requires : goal.make-requires
make-requires g c =
    let it : Family = c.in-Some.it.now in
    let seen = c.deref.ensures.value ∙ ap (λ (r : RegistryView g.row.S.Denot). r.state.families) c.self.view_is in
    let now : slice_get c.args.self.now.state.families c.args.family.number ≡ Some it =
    read_at c.deref.result.now _ c.args.family.number it seen c.in-Some.ensures.lookup.3.0 c.in-Some.ensures.lookup.1 in
    let desc : c.deref-2.result.now ≡ it.desc = c.deref-2.ensures ∙ ap (λ (family : Family). family.desc) c.it.view_is in
    let fit : length c.args.values.now ≡ length it.desc.labels =
    sym c.if-want-got.false ∙ ap length (c.labels.ensures.labels ∙ ap (λ (d : Descriptor). d.labels) desc) in (
      search rules,
      (
        some_at (λ (family : Family). IsMissingChild family c.args.values.now) c.args.self.now.state.families
            c.args.family.number it now (fit, c.in-Err.ensures.new),
        some_at (λ (family : Family). IsPlaceOfValues family.children c.args.values.now c.in-Err.place)
            c.args.self.now.state.families c.args.family.number it now c.in-Err.ensures.place,
      ),
    )

pub returns-in-Ok-clause-given : goal.returns-in-Ok-clause-given
returns-in-Ok-clause-given g c =
    let it : Family = c.in-Some.it.now in
    let there : slice_get c.self.inside.families.items c.args.family.number ≡ Some it =
    read_at c.deref.result.now _ c.args.family.number it c.deref.ensures.value c.in-Some.ensures.lookup.3.0
    c.in-Some.ensures.lookup.1 in
    let found = c.in-Ok.ensures.found in
    subst (λ (r : RegistryView g.row.S.Denot). IsGiven g.row.C g.row.H g.row.G r r c.args.family.number c.args.values.now
    c.in-Ok.handle) c.self.view_is
    (inl (record {
      slot = found.0;
      there = some_at (λ (family : Family). Contains family.children (record { values = c.args.values.now; slot = found.0 })
          × IsHandle c.self.inside.id family.desc found.0 c.in-Ok.handle) c.self.inside.families.items c.args.family.number it
          there
          (found.1, found.2);
      same = refl;
    }))

pub returns-in-Ok-clause-inside : goal.returns-in-Ok-clause-inside
returns-in-Ok-clause-inside g c =
    let it : Family = c.in-Some.it.now in
    is_inside_found g.row.C g.row.H g.row.G c.self.inside.id c.self.inside.families.items _ c.self.invariant.held
    c.args.family.number it
    (read_at c.deref.result.now _ c.args.family.number it c.deref.ensures.value c.in-Some.ensures.lookup.3.0
    c.in-Some.ensures.lookup.1)
    c.args.values.now c.in-Ok.handle c.in-Ok.ensures.found
