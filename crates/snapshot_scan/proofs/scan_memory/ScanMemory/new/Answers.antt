use Rattle.std.proofs.Common.{◌+◌, ℕ, List, Contains, length, subst, sym, ap, ◌∙◌}
use lib.ListN.{length-replicate}
use Rattle.ledger_core.specs.Ops.{width}
use Rattle.snapshot_scan.specs.RememberedRows.{AreBlank, AreTotals}
use Rattle.snapshot_scan.proofs.Blank.{are_wide, are_totals, rows_blank}
use Rattle.snapshot_scan.proofs.Noted.{none_listed}
use Rattle.snapshot_scan.proofs.scan_memory.ScanMemory.new.Goals as goal

pub invariant_of-result : goal.invariant_of-result
invariant_of-result g c =
    let n : ℕ = g.row.N in let w : ℕ = width g.row.C g.row.H g.row.G in
    let blank : AreBlank w c.in_ok-remembered.remembered.items = c.in_ok-remembered.ensures.1 in record {
      geometry = c.requires;
      sizes = (
        c.in_ok-remembered.ensures.0,
        ap (λ (l : List ℕ). length l) (c.in_ok-totals.ensures.items_if_clones_equal (λ y h. h)) ∙ length-replicate w 0,
        ap (λ (l : List ℕ). length l) (c.in_ok-opened.ensures.items_if_clones_equal (λ y h. h)) ∙ length-replicate n 0,
        ap (λ (l : List ℕ). length l) (c.in_ok-found.ensures.items_if_clones_equal (λ y h. h)) ∙ length-replicate n 0,
        ap (λ (l : List ℕ). length l) (c.in_ok-lent.ensures.items_if_clones_equal (λ y h. h)) ∙ length-replicate (1 + n + w) 0,
      );
      wide = are_wide w c.in_ok-remembered.remembered.items blank;
      sums = subst (AreTotals w c.in_ok-remembered.remembered.items)
          (sym (c.in_ok-totals.ensures.items_if_clones_equal (λ y h. h)))
          (are_totals w c.in_ok-remembered.remembered.items blank);
      listed = λ j h. absurd (none_listed j (subst (λ (l : List ℕ). Contains l j) c.in_ok-changed_totals.ensures.1 h));
    }

pub returns : goal.returns
returns g c = let w : ℕ = width g.row.C g.row.H g.row.G in
    record {
      rows = rows_blank w c.in_ok-remembered.remembered.items g.row.N c.in_ok-remembered.ensures.0
          c.in_ok-remembered.ensures.1;
    }
