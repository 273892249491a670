use Rattle.std.proofs.Common.{rules, refl, ◌≡◌, List, Some, slice_get, ap, sym, subst, ◌∙◌}
use Rattle.std.specs.Arc.{arc_value}
use Rattle.registry_state.specs.Replay.{Child, Family, put}
use Rattle.registry_state.specs.Held.{IsPlaceOfValues}
use Rattle.registry_state.proofs.Making.{at_some, on_err_both, there_at, still_at, with_child_at}
use Rattle.registry_state.proofs.noted_child.put_noted.Goals as goal

pub returns-in_err-reserve-clause-unchanged : goal.returns-in_err-reserve-clause-unchanged
returns-in_err-reserve-clause-unchanged g c =
    let families : List Family = c.args.families.now.items in
    let it : Family = c.index_mut-family.result.now in
    let there : slice_get families c.args.number ≡ Some it =
    there_at (λ (it : Family). IsPlaceOfValues it.children c.args.child.values c.args.place) families c.args.number it c.requires
    c.index_mut-family.ensures.value in
    on_err_both _ _ _ refl
    (still_at families c.args.number it (arc_value c.family.inside.desc) c.reserve.new.self.items there
    (ap (λ (family : Family). family.desc) c.family.view_is)
    (c.in_err-reserve.ensures.items ∙ ap (λ (family : Family). family.children) c.family.view_is))

pub returns-in_err-note_made-clause-unchanged : goal.returns-in_err-note_made-clause-unchanged
returns-in_err-note_made-clause-unchanged g c =
    let families : List Family = c.args.families.now.items in
    let it : Family = c.index_mut-family.result.now in
    let there : slice_get families c.args.number ≡ Some it =
    there_at (λ (it : Family). IsPlaceOfValues it.children c.args.child.values c.args.place) families c.args.number it c.requires
    c.index_mut-family.ensures.value in
    on_err_both _ _ _ c.in_err-note_made.ensures.unchanged
    (still_at families c.args.number it (arc_value c.family.inside.desc) c.reserve.new.self.items there
    (ap (λ (family : Family). family.desc) c.family.view_is)
    (c.in_ok-reserve.ensures.items ∙ ap (λ (family : Family). family.children) c.family.view_is))

pub put_child-requires : goal.put_child-requires
put_child-requires g c =
    let families : List Family = c.args.families.now.items in
    let it : Family = c.index_mut-family.result.now in
    let there : slice_get families c.args.number ≡ Some it =
    there_at (λ (it : Family). IsPlaceOfValues it.children c.args.child.values c.args.place) families c.args.number it c.requires
    c.index_mut-family.ensures.value in
    record {
      place = subst (λ (cs : List Child). IsPlaceOfValues cs c.args.child.values c.args.place)
          (sym (c.in_ok-reserve.ensures.items ∙ ap (λ (family : Family). family.children) c.family.view_is))
          (at_some (λ (it : Family). IsPlaceOfValues it.children c.args.child.values c.args.place) families c.args.number it there
          c.requires);
    }

pub returns-clause-put : goal.returns-clause-put
returns-clause-put g c =
    let families : List Family = c.args.families.now.items in
    let it : Family = c.index_mut-family.result.now in
    let there : slice_get families c.args.number ≡ Some it =
    there_at (λ (it : Family). IsPlaceOfValues it.children c.args.child.values c.args.place) families c.args.number it c.requires
    c.index_mut-family.ensures.value in
    let made : c.put_child.new.children.items ≡ put c.args.child c.family.inside.children.items = search rules in
    with_child_at families c.args.number c.args.child it (arc_value c.family.inside.desc) c.put_child.new.children.items there
    (ap (λ (family : Family). family.desc) c.family.view_is)
    (made ∙ ap (λ (family : Family). put c.args.child family.children) c.family.view_is)
