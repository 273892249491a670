-- One remembered row takes the place of another.
use Rattle.std.proofs.Common.{[], ◌∷◌, ◌++◌, zero, suc, refl, ◌≡◌, ⊎_elim, ℕ, ◌+◌, ◌<◌, ◌≤◌, List, length, map, set}
use Rattle.std.proofs.Common.{slice_index, sym}
use Rattle.std.proofs.Common.{take, drop, get_or, ap, subst, arith, ◌∙◌, length-set}
use Rattle.std.proofs.Math.Path.{transport}
use mathlib.Core.Option.{some, some-injective, some-ne-none}
use lib.ListN.{get_elem?}
use Rattle.register_rule.specs.declared.view.Version.{Version}
use Rattle.snapshot_scan.specs.declared.remembered_row.RememberedRow.{RememberedRow}
use Rattle.snapshot_scan.specs.RememberedRows.{version_of, IsWide, AreWide, AreTotals, sum_rows}
use Rattle.register_rule.proofs.Words.{there}
use Rattle.snapshot_scan.proofs.Words.{from_set, map_set, written}
use Rattle.snapshot_scan.proofs.Settling.{row_in, sum_low, sum_set}

pub own_wide : (w : ℕ) (gs : List RememberedRow) (i : ℕ) (g : RememberedRow) → AreWide w gs → IsWide w g → AreWide w (set gs i g)
own_wide w gs i g wide here q y e = ⊎_elim (λ h. wide q y h) (λ h. subst (IsWide w) h.0 here) (from_set gs i g q y e)

-- a word of a row is at most the sum of all rows, and that is at most 2^53
pub own_part : (w : ℕ) (gs : List RememberedRow) (totals : List ℕ) (i : ℕ) (g : RememberedRow) → get_elem? gs i ≡ some g
    → length gs ≤ 32 → AreWide w gs → AreTotals w gs totals
    → (k : ℕ) → k < w → (slice_index g.row.items k ≤ slice_index totals k) × (slice_index totals k ≤ 9007199254740992)
own_part w gs totals i g at few wide are k lt = let e = are k lt in let r = row_in k gs i g at in
    let s = sum_low w k gs lt wide in (omega (arith, e, r), omega (arith, e, s, few))

pub own_totals : (w : ℕ) (gs : List RememberedRow) (totals totals' : List ℕ) (i : ℕ) (g g' : RememberedRow) (row : List ℕ)
    → get_elem? gs i ≡ some g → AreTotals w gs totals → g'.row.items ≡ row
    → ((k : ℕ) → k < w → slice_index totals' k + slice_index g.row.items k ≡ slice_index totals k + slice_index row k)
    → AreTotals w (set gs i g') totals'
own_totals w gs totals totals' i g g' row at are is sums k lt = let e = are k lt in let h = sum_set k gs i g g' at in
    let s = sums k lt in let v = ap (λ (l : List ℕ). slice_index l k) is in omega (arith, e, h, s, v)

-- the sums of all rows, where one of them was changed
abbrev sums_at : (k : ℕ) → List Version → ℕ
sums_at k [] = 0
sums_at k (v ∷ vs) = slice_index v.row k + sums_at k vs

sums_are : (k : ℕ) (gs : List RememberedRow) → sum_rows k gs ≡ sums_at k (map version_of gs)
sums_are k [] = refl
sums_are k (g ∷ gs) = ap (λ z. slice_index g.row.items k + z) (sums_are k gs)

sums_set : (k : ℕ) (vs : List Version) (i : ℕ) (v v' : Version) → get_elem? vs i ≡ some v
    → sums_at k (set vs i v') + slice_index v.row k ≡ sums_at k vs + slice_index v'.row k
sums_set k [] i v v' e = absurd (some-ne-none v (sym e))
sums_set k (x ∷ vs) zero v v' e = let h : slice_index v.row k ≡ slice_index x.row k = ap (λ (z : Version). slice_index z.row k)
    (sym (some-injective x v e)) in omega (arith, h)
sums_set k (x ∷ vs) (suc i) v v' e = let h = sums_set k vs i v v' e in omega (arith, h)

pub own_sums : (w : ℕ) (gs gs' : List RememberedRow) (totals totals' : List ℕ) (i : ℕ) (v v' : Version) → AreTotals w gs totals
    → AreTotals w gs' totals' → map version_of gs' ≡ set (map version_of gs) i v' → get_elem? (map version_of gs) i ≡ some v
    → (k : ℕ) → k < w → slice_index totals' k + slice_index v.row k ≡ slice_index totals k + slice_index v'.row k
own_sums w gs gs' totals totals' i v v' before after rows at k lt =
    let a = before k lt in let b = after k lt in let c = sums_are k gs in let d = sums_are k gs' in let e = ap (sums_at k) rows in
    let f = sums_set k (map version_of gs) i v v' at in omega (arith, a, b, c, d, e, f)

-- what is true of a memory's rows and sums, of which the row of a place became another
pub record Kept (w : ℕ) (rows rows' : List RememberedRow) (sums sums' : List ℕ) (i : ℕ) (v' : Version) : Type 0 where
  pub few : length rows' ≡ length rows
  pub long : length sums' ≡ length sums
  pub wide : AreWide w rows'
  pub totals : AreTotals w rows' sums'
  pub versions : map version_of rows' ≡ set (map version_of rows) i v'
  pub words : (v : Version) → get_elem? (map version_of rows) i ≡ some v → (k : ℕ) → k < w
      → slice_index sums' k + slice_index v.row k ≡ slice_index sums k + slice_index v'.row k

-- it became another by way of slices of both
pub kept : (w n m i : ℕ) (rows gs : List RememberedRow) (sums ts ts' : List ℕ) (d g' : RememberedRow) (v' : Version)
    → gs ≡ rows → length gs ≡ n → ts ≡ sums → length ts ≡ m → length ts' ≡ length ts → i < length gs
    → AreWide w rows → AreTotals w rows sums → IsWide w g' → version_of g' ≡ v'
    → ((k : ℕ) → k < w → slice_index ts' k + slice_index (get_or gs i d).row.items k ≡ slice_index ts k + slice_index v'.row k)
    → Kept w rows (take n (set gs i g' ++ drop (length (set gs i g')) rows)) sums (take m (ts' ++ drop (length ts') sums)) i v'
kept w n m i rows gs sums ts ts' d g' v' is len es long auto lt wide totals here version adds = record {
  few = ap (λ (l : List RememberedRow). length l) rows_are ∙ (length-set _ _ _ ∙ ap (λ (l : List RememberedRow). length l) is);
  long = ap (λ (l : List ℕ). length l) are ∙ (auto ∙ ap (λ (l : List ℕ). length l) es);
  wide = subst (AreWide w) (sym rows_are) (own_wide w gs i g' (subst (AreWide w) (sym is) wide) here);
  totals = summed;
  versions = versions;
  words = λ v at k low. own_sums w rows _ sums _ i v v' totals summed versions at k low;
}
  where
    rows_are : take n (set gs i g' ++ drop (length (set gs i g')) rows) ≡ set gs i g'
    rows_are = written (set gs i g') gs rows n is len (length-set _ _ _)

    are : take m (ts' ++ drop (length ts') sums) ≡ ts'
    are = written ts' ts sums m es long auto

    at : get_elem? gs i ≡ some (get_or gs i d)
    at = there gs i d lt

    summed : AreTotals w (take n (set gs i g' ++ drop (length (set gs i g')) rows)) (take m (ts' ++ drop (length ts') sums))
    summed = transport (λ z. AreTotals w (sym rows_are z) (sym are z)) (own_totals w gs ts ts' i (get_or gs i d) g' v'.row at
        (transport (λ z. AreTotals w (sym is z) (sym es z)) totals) (ap (λ (v : Version). v.row) version) adds)

    versions : map version_of (take n (set gs i g' ++ drop (length (set gs i g')) rows)) ≡ set (map version_of rows) i v'
    versions = ap (map version_of) rows_are ∙ (map_set version_of gs i g' ∙ (λ z. set (map version_of (is z)) i (version z)))
