-- Rows of zeros.
use Rattle.std.proofs.Common.{◌≡◌, ℕ, zero, suc, List, [], ◌∷◌, length, map, replicate, slice_index, sym, refl, ap, ◌∙◌, subst}
use Rattle.std.proofs.Common.{arith, Contains}
use mathlib.Core.Option.{some, some-injective, some-ne-none}
use lib.ListN.{get_elem?, length-replicate}
use Rattle.register_rule.specs.declared.view.Version.{Version}
use Rattle.snapshot_scan.specs.declared.remembered_row.RememberedRow.{RememberedRow}
use Rattle.snapshot_scan.proofs.Noted.{none_listed}
use Rattle.snapshot_scan.specs.RememberedRows.{version_of, IsWide, AreWide, AreTotals, IsBlank, AreBlank, sum_rows}

pub zero_in : (n k : ℕ) → slice_index (replicate n 0) k ≡ 0
zero_in zero k = refl
zero_in (suc n) zero = refl
zero_in (suc n) (suc k) = zero_in n k

blank_wide : (w : ℕ) (g : RememberedRow) → IsBlank w g → IsWide w g
blank_wide w g is = record {
  row = ap (λ (l : List ℕ). length l) is.row ∙ length-replicate w 0;
  fresh = ap (λ (l : List ℕ). length l) is.fresh ∙ length-replicate w 0;
  row_low = λ k lt. let e = ap (λ (l : List ℕ). slice_index l k) is.row ∙ zero_in w k in omega (arith, e);
  fresh_low = λ k lt. let e = ap (λ (l : List ℕ). slice_index l k) is.fresh ∙ zero_in w k in omega (arith, e);
  same = λ h k lt none. let z = sym is.changed.0 ∙ h in absurd (cc);
  inside = λ j h. absurd (none_listed j (subst (λ (l : List ℕ). Contains l j) is.changed.1 h));
}

pub are_wide : (w : ℕ) (gs : List RememberedRow) → AreBlank w gs → AreWide w gs
are_wide w gs is q g at = blank_wide w g (is q g at)

no_sum : (w k : ℕ) (gs : List RememberedRow) → AreBlank w gs → sum_rows k gs ≡ 0
no_sum w k [] is = refl
no_sum w k (g ∷ gs) is = let e = ap (λ (l : List ℕ). slice_index l k) (is 0 g refl).row ∙ zero_in w k in
    let others = no_sum w k gs (λ q x at. is (suc q) x at) in omega (arith, e, others)

pub are_totals : (w : ℕ) (gs : List RememberedRow) → AreBlank w gs → AreTotals w gs (replicate w 0)
are_totals w gs is k lt = zero_in w k ∙ sym (no_sum w k gs is)

pub rows_blank : (w : ℕ) (gs : List RememberedRow) (n : ℕ) → length gs ≡ n → AreBlank w gs
    → map version_of gs ≡ replicate n (record { number = 0; row = replicate w 0 })
rows_blank w [] zero e is = refl
rows_blank w [] (suc n) e is = absurd (omega (arith, e))
rows_blank w (g ∷ gs) zero e is = absurd (omega (arith, e))
rows_blank w (g ∷ gs) (suc n) e is = let b = is 0 g refl in
    let others = rows_blank w gs n (omega (arith, e)) (λ q x at. is (suc q) x at) in
    λ z. record { number = b.number z; row = b.row z } ∷ others z

pub from_rows : (gs : List RememberedRow) (q : ℕ) (v : Version) → get_elem? (map version_of gs) q ≡ some v → (g : RememberedRow)
    × (get_elem? gs q ≡ some g) × (version_of g ≡ v)
from_rows [] q v e = absurd (some-ne-none v (sym e))
from_rows (g ∷ gs) zero v e = (g, refl, some-injective (version_of g) v e)
from_rows (g ∷ gs) (suc q) v e = from_rows gs q v e
