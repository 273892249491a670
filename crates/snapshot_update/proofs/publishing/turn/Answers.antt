use Rattle.std.proofs.Common.{◌≡◌, ⊎_elim, ◌+◌, ℕ, Contains, sym, ◌∙◌, arith, subst}
use Rattle.std.proofs.lemmas.Bool.{and_parts, not-true}
use Rattle.snapshot_update.proofs.publishing.turn.Goals as goal

pub list_late-requires : goal.list_late-requires
list_late-requires g c = record {
  room = λ j has. let lt = c.requires.touched j has in let e = c.item_at.ensures.place in
      let few = c.requires.geometry.workers.1 in
      let s = c.requires.geometry.slots in let a = s.counters in let b = s.histograms in let d = s.gauges in
      omega (arith, lt, e, few, a, b, d);
}

pub returns-clause-totals : goal.returns-clause-totals
returns-clause-totals g c = λ listed k has. let e = c.item_at.ensures.place in
    let same : k + (c.item_at.result + 1 + g.row.N) ≡ _ = omega (arith, e) in
    subst (λ (j : ℕ). Contains c.list_late.new.late.items j) same (c.list_late.ensures.totals listed k has)

pub returns-clause-inside : goal.returns-clause-inside
returns-clause-inside g c = λ j has. let e = c.item_at.ensures.place in let e' = c.item_at-number.ensures.place in
    let own = c.requires.inside in
    ⊎_elim (λ h. omega (arith, e', own, h)) (λ t. let lt = c.requires.touched t.0 t.1 in let h = t.2 in omega (arith, e, lt, h))
    (c.list_late.ensures.others j has)

pub returns-clause-only : goal.returns-clause-only
returns-clause-only g c = λ listed j apart has.
    let e = c.item_at.ensures.place in let e' = c.item_at-number.ensures.place in
    ⊎_elim (λ h. apart.0 (omega (arith, e', h))) (λ t. let h = t.2 in apart.1 t.0 t.1 (omega (arith, e, h)))
    (c.list_late.ensures.others j has)

pub returns-clause-joined : goal.returns-clause-joined
returns-clause-joined g c = λ yes.
    let outer = and_parts _ _ yes in let inner = and_parts _ _ outer.0 in
    (inner.0, sym c.is_same.ensures ∙ inner.1, sym c.is_all.ensures ∙ not-true _ outer.1)
