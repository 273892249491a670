use Rattle.std.proofs.Common.{◌≡◌, ℕ, get_or, arith, rules, sym, ap, ◌∙◌, subst, List, length}
use Rattle.std.proofs.Math.Path.{transport}
use mathlib.Core.Option.{some}
use lib.ListN.{get_elem?}
use Rattle.ledger_core.specs.Ops.{width}
use Rattle.register_rule.proofs.Words.{there}
use Rattle.snapshot_scan.specs.declared.remembered_row.RememberedRow.{RememberedRow}
use Rattle.snapshot_scan.specs.RememberedRows.{AreWide, AreTotals}
use Rattle.snapshot_scan.proofs.Moving.{moves_inside}
use Rattle.snapshot_scan.proofs.OwnRow.{own_part, kept}
use Rattle.snapshot_scan.proofs.scan_memory.ScanMemory.remember.Goals as goal

pub learn-requires : goal.learn-requires
learn-requires g c =
    let w : ℕ = width g.row.C g.row.H g.row.G in let m = c.args.self.now in let i = c.args.place in
    let slot = c.as_mut_slice-remembered in let sums = c.as_mut_slice-totals in
    let gs = slot.result.now in let is = slot.ensures.value in let es = sums.ensures.value in
    let old : RememberedRow = get_or gs i c.index-remembered-place.result in
    let len = ap (λ (l : List RememberedRow). length l) is in let few = m.sizes.0 in let n = m.geometry.workers.1 in
    let p = c.requires.inside in
    let at : get_elem? gs i ≡ some old = there gs i c.index-remembered-place.result (omega (arith, few, p, len)) in
    let wide = subst (AreWide w) (sym is) m.wide in (
      search rules,
      (
        ap (λ (l : List ℕ). length l) es ∙ m.sizes.1,
        (
          wide i old at,
          own_part w gs sums.result.now i old at (omega (arith, few, n, len)) wide
              (transport (λ z. AreTotals w (sym is z) (sym es z)) m.sums),
        ),
      ),
    )

pub invariant_of-self : goal.invariant_of-self
invariant_of-self g c =
    let m = c.args.self.now in let slot = c.as_mut_slice-remembered in let sums = c.as_mut_slice-totals in let r = c.learn in
    let len = ap (λ (l : List RememberedRow). length l) slot.ensures.value in let few = m.sizes.0 in let p = c.requires.inside in
    let k = kept (width g.row.C g.row.H g.row.G) m.remembered.len m.totals.len c.args.place m.remembered.items slot.result.now
    m.totals.items sums.result.now r.new.totals c.index-remembered-place.result r.new.self
    (record { number = c.args.number; row = c.args.row.now }) slot.ensures.value slot.ensures.len sums.ensures.value
    sums.ensures.len r.auto.totals (omega (arith, few, p, len)) m.wide m.sums r.ensures.wide
    r.ensures.version r.ensures.totals in
    record {
      geometry = m.geometry;
      sizes = (k.few ∙ m.sizes.0, k.long ∙ m.sizes.1, m.sizes.2, m.sizes.3, m.sizes.4);
      wide = k.wide;
      sums = k.totals;
      listed = moves_inside (width g.row.C g.row.H g.row.G) sums.result.now r.new.totals m.changed_totals r.new.changed_totals
          m.listed
          r.ensures.changed_totals;
    }

pub returns : goal.returns
returns g c =
    let m = c.args.self.now in let slot = c.as_mut_slice-remembered in let sums = c.as_mut_slice-totals in let r = c.learn in
    let len = ap (λ (l : List RememberedRow). length l) slot.ensures.value in let few = m.sizes.0 in let p = c.requires.inside in
    let k = kept (width g.row.C g.row.H g.row.G) m.remembered.len m.totals.len c.args.place m.remembered.items slot.result.now
    m.totals.items sums.result.now r.new.totals c.index-remembered-place.result r.new.self
    (record { number = c.args.number; row = c.args.row.now }) slot.ensures.value slot.ensures.len sums.ensures.value
    sums.ensures.len r.auto.totals (omega (arith, few, p, len)) m.wide m.sums r.ensures.wide
    r.ensures.version r.ensures.totals in
    record { rows = k.versions; sums = k.words }
