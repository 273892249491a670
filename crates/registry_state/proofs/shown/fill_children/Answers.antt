use Rattle.std.proofs.Common.{arith, ◌≡◌, List, ℕ, get_or, ap, ◌∙◌}
use Rattle.std.specs.Arc.{arc_value}
use Rattle.expo_text.specs.Scraped.{Child as ChildShown}
use Rattle.expo_text.specs.declared.number.Number.{Number}
use Rattle.registry_state.specs.Replay.{Child}
use Rattle.registry_state.specs.Shown.{value_at, child_shown}
use Rattle.registry_state.specs.Filled.{child_blank}
use Rattle.registry_state.proofs.Lists.{filled_at, filled_more}
use Rattle.registry_state.proofs.shown.fill_children.Goals as goal

both : (values others : List (List ℕ)) (number other : Number) → values ≡ others → number ≡ other
    → ◌≡◌ {A = ChildShown} (record { values = values; number = number }) (record { values = others; number = other })
both values others number other e f =
    ap (λ v. record { values = v; number = number }) e ∙ ap (λ n. record { values = others; number = n }) f

pub loop-place-preserved : goal.loop-place-preserved
loop-place-preserved g c =
    let child : Child = c.index-children-place.result in
    let totals : List ℕ = c.args.snapshot.now.totals in
    let shown : Child → ChildShown = child_shown g.row.C g.row.H totals c.args.kind in
    let blank : Child → ChildShown = child_blank c.args.kind in
    let was : get_or c.loop-place.shown c.loop-place.place c.index-shown-place.result ≡ blank child =
    filled_at shown blank c.args.children.now c.loop-place.shown c.loop-place.place child (omega arith) c.loop-place.invariant
    c.index-children-place.is c.index-shown-place.result in
    let values : (arc_value c.one.inside.values).items ≡ child.values = ap (λ (it : ChildShown). it.values)
    (c.one.view_is ∙ was) in
    let slot : c.child.inside.slot ≡ child.slot = ap (λ (it : Child). it.slot) c.child.view_is in
    let value : c.value_of-one-inside.result ≡ value_at g.row.C g.row.H totals c.args.kind child.slot =
    c.value_of-one-inside.ensures ∙ ap (value_at g.row.C g.row.H totals c.args.kind) slot in
    filled_more shown blank c.args.children.now c.loop-place.shown c.loop-place.place child (omega arith) c.loop-place.invariant
    c.index-children-place.is _
    (both _ _ _ _ values value)
