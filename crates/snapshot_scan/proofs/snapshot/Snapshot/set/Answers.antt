use Rattle.std.proofs.Common.{ℕ, List, length, sym, ap, ◌∙◌, subst, arith}
use Rattle.ledger_core.specs.Ops.{width}
use Rattle.snapshot_scan.specs.Snapshots.{AreLow}
use Rattle.snapshot_scan.proofs.Words.{over}
use Rattle.snapshot_scan.proofs.snapshot.Snapshot.set.Goals as goal

pub returns-clause-vector : goal.returns-clause-vector
returns-clause-vector g c =
    let old = c.self.inside.vector in let new = c.copy_from_slice.new.self in let a = c.copy_from_slice.auto.self in
    let v = c.as_mut_slice.ensures.value in let n = c.as_mut_slice.ensures.len in
    over new old.items old.len (a ∙ ap (λ (l : List ℕ). length l) v) (omega (arith, a, n)) ∙ c.copy_from_slice.ensures.after

pub returns-clause-totals : goal.returns-clause-totals
returns-clause-totals g c =
    let old = c.self.inside.totals in let new = c.copy_from_slice-2.new.self in let a = c.copy_from_slice-2.auto.self in
    let v = c.as_mut_slice-2.ensures.value in let n = c.as_mut_slice-2.ensures.len in
    over new old.items old.len (a ∙ ap (λ (l : List ℕ). length l) v) (omega (arith, a, n)) ∙ c.copy_from_slice-2.ensures.after

pub invariant_of-self : goal.invariant_of-self
invariant_of-self g c =
    let vector = returns-clause-vector g c in let totals = returns-clause-totals g c in record {
      slots = c.self.invariant.slots;
      all = ap (λ (l : List ℕ). length l) vector ∙ c.requires.all;
      wide = ap (λ (l : List ℕ). length l) totals ∙ c.requires.wide;
      low = subst (AreLow (width g.row.C g.row.H g.row.G)) (sym totals) c.requires.low;
    }
