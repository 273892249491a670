-- What a scan and each of its tries need of the seat and of what is remembered, and what a scan leaves.
use Rattle.std.specs.Prelude.{◌≡◌, ℕ, ◌+◌, ◌<◌, ◌≤◌, slice_index, [], ◌∷◌, ◌++◌, Bool, true, false, List, length, map}
use Rattle.ledger_core.specs.Ops.{width}
use Rattle.segment_layout.specs.Layout.{IsGeometry}
use Rattle.register_rule.specs.declared.board.Board.{Board}
use Rattle.register_rule.specs.declared.seats.Bundle.{Bundle}
use Rattle.register_rule.specs.Seats.{table_of, members_of, MayScan}
use Rattle.register_rule.specs.ScanSteps.{answered, given_up_if_spent, lent_in}
use Rattle.snapshot_core.specs.declared.next.Next.TheVariants as Next
use Rattle.snapshot_scan.specs.declared.contended.Contended.{Contended}
use Rattle.snapshot_scan.specs.declared.remembered_row.RememberedRow.{RememberedRow}
use Rattle.snapshot_scan.specs.declared.scan_end.ScanEnd.{ScanEnd}
use Rattle.snapshot_scan.specs.declared.scan_end.ScanEnd.TheVariants.{Direct, Lent, GaveUp}
use Rattle.snapshot_scan.specs.declared.try_end.TryEnd.{TryEnd}
use Rattle.snapshot_scan.specs.declared.try_end.TryEnd.TheVariants.{Failed}
use Rattle.snapshot_scan.specs.TryEnds.{is_clean, is_quiet}
use Rattle.snapshot_scan.specs.Asking.{MayAsk, due_from}
use Rattle.snapshot_scan.specs.ChangedItems.{ChangedView, Lists, ListsChanges}
use Rattle.snapshot_scan.specs.Contention.{IsFirstMoved}
use Rattle.snapshot_scan.specs.Core.{CameTo, AnswersBy}
use Rattle.snapshot_scan.specs.RememberedRows.{AreWide, AreTotals, AreKnown, HasOther, IsLoaded, pairs, version_of}
use Rattle.snapshot_scan.specs.RememberedRows.{opening, settling, failing}
use Rattle.snapshot_scan.specs.Scanned.{IsIdle, IsQuiet, HasMoved, IsAnswered, IsGivenUp}
use Rattle.snapshot_scan.specs.Shape.{scan_in, with_scan, IsRuled}

-- a try may be made: by a seat that can make steps of a scan, whose member remembers these rows, and has no try begun; what the
-- try opens has a place for each worker
pub record MayTry {N C H G : ℕ} (b : Board N C H G) (s : Bundle) (gs : List RememberedRow) (opened : List ℕ) : Type 0 where
  pub of_board : MayScan b s
  pub geometry : IsGeometry N C H G
  pub lengths : (length gs ≡ N) × (length opened ≡ N)
  pub wide : AreWide (width C H G) gs
  pub remembered : (scan_in s).remembered ≡ map version_of gs
  pub rest : ((scan_in s).trying.looks ≡ []) × ((scan_in s).trying.due ≡ []) × ((scan_in s).trying.asks ≡ [])

-- the worker at this place may be asked, the next one that is to be: by a seat whose floor this is, with rows of so many words,
-- and with a place for the words that it lends
pub record MayAskOne {N C H G : ℕ} (b : Board N C H G) (s : Bundle) (place row : ℕ) (floors words : List ℕ) : Type 0 where
  pub of_board : MayScan b s
  pub geometry : IsGeometry N C H G
  pub inside : place < N
  pub lengths : (row ≡ width C H G) × (length floors ≡ N) × (length words ≡ 1 + N + width C H G)
  pub next : (rest : List ℕ) × ((scan_in s).trying.due ≡ place ∷ rest)
  pub rest : ((scan_in s).trying.looks ≡ []) × ((scan_in s).trying.asks ≡ [])
  pub floor : (scan_in s).trying.floor ≡ floors

-- all workers may be asked that are to be: those whose number, as it was found, is at least two above its base
pub record MayAskAll {N C H G : ℕ} (b : Board N C H G) (s : Bundle) (row : ℕ) (floor base found words : List ℕ) : Type 0 where
  pub of_board : MayScan b s
  pub ruled : IsRuled N C H G s
  pub geometry : IsGeometry N C H G
  pub lengths : (row ≡ width C H G) × (length floor ≡ N) × (length base ≡ N) × (length found ≡ N)
      × (length words ≡ 1 + N + width C H G)
  pub may_ask : MayAsk floor (due_from 0 base found) (scan_in s)

-- what a try leaves: of the seat s, of the rows gs and their sums; with the numbers of both collects, and where the sums changed.
pub record HasTried (N C H G : ℕ) (s s' : Bundle) (gs gs' : List RememberedRow) (sums sums' opened found : List ℕ)
    (changed changed' : ChangedView) (end : TryEnd) : Type 0 where
  pub table : table_of s' ≡ table_of s
  pub ruled : IsRuled N C H G s'
  pub wide : AreWide (width C H G) gs'
  pub totals : AreTotals (width C H G) gs' sums'
  pub told : (q : ℕ) → q < N → IsLoaded q (scan_in s) (slice_index opened q)
  pub clean : is_clean end ≡ true → members_of s' ≡ with_scan (answered (record { vector = opened; totals = sums' })
      (settling opened found gs' (opening opened gs' (scan_in s)))) (members_of s)
  pub same : is_clean end ≡ true → opened ≡ found
  pub failed : is_clean end ≡ false → members_of s' ≡ with_scan (given_up_if_spent N (failing (settling opened found gs'
      (opening opened gs' (scan_in s))))) (members_of s)
  pub risen : (q : ℕ) → q < N → slice_index opened q ≤ slice_index found q
  pub rose : is_clean end ≡ false → (q : ℕ) × (q < N) × (slice_index opened q < slice_index found q)
  pub quiet : is_quiet end ≡ true → IsQuiet gs gs' sums sums' opened
  pub unknown : is_clean end ≡ true → is_quiet end ≡ false → HasOther opened (map version_of gs)
  pub numbers : is_clean end ≡ true → AreKnown opened gs'
  pub listed : ListsChanges (width C H G) sums sums' changed changed'

-- what the first try of a scan leaves, where it is not clean: of the seat s, which was in no scan, of the rows gs and their
-- sums; with the numbers of both collects, and where the sums changed
pub record HasFailedOnce {N C H G : ℕ} (b : Board N C H G) (s s' : Bundle) (gs gs' : List RememberedRow)
    (sums sums' opened found : List ℕ) (changed : ChangedView) : Type 0 where
  pub of_board : MayScan b s
  pub idle : IsIdle (scan_in s) gs
  pub tried : (old : ChangedView) × HasTried N C H G s s' gs gs' sums sums' opened found old changed Failed
  pub listed : Lists (width C H G) sums sums' changed

-- what a scan that ended so leaves: of the seat s, of the rows gs and their sums; with the numbers of its last try, the words
-- that were lent, and where the sums changed
pub record HasEnded (N C H G : ℕ) (s s' : Bundle) (gs gs' : List RememberedRow) (sums sums' opened found words : List ℕ)
    (changed : ChangedView) (end : ScanEnd) : Type 0 where
  pub table : table_of s' ≡ table_of s
  pub ruled : IsRuled N C H G s'
  pub wide : AreWide (width C H G) gs'
  pub totals : AreTotals (width C H G) gs' sums'
  pub idle : IsIdle (scan_in s') gs'
  pub others : members_of s' ≡ with_scan (scan_in s') (members_of s)
  pub direct : (q : Bool) → end ≡ Direct q → IsAnswered N (scan_in s) (scan_in s') (record { vector = opened; totals = sums' })
  pub came_direct : (q : Bool) → end ≡ Direct q → AnswersBy N (width C H G) (scan_in s) (scan_in s') (record {
    vector = opened;
    totals = sums';
  })
  pub quiet : end ≡ Direct true → IsQuiet gs gs' sums sums' opened
  pub once : end ≡ Direct true → (scan_in s').opened ≡ (scan_in s).opened ++ pairs 0 opened
  pub moved : end ≡ Direct false → HasMoved N (map version_of gs) (scan_in s) (scan_in s')
  pub lent : end ≡ Lent → IsAnswered N (scan_in s) (scan_in s') (lent_in N (width C H G) words)
  pub came_lent : end ≡ Lent → AnswersBy N (width C H G) (scan_in s) (scan_in s') (lent_in N (width C H G) words)
  pub numbers : (q : Bool) → end ≡ Direct q → AreKnown opened gs'
  pub listed : Lists (width C H G) sums sums' changed
  pub gave_up : end ≡ GaveUp → IsGivenUp N (scan_in s) (scan_in s') opened found
  pub came_up : end ≡ GaveUp → (e : Contended) → IsFirstMoved opened found e
      → CameTo N (width C H G) (scan_in s) (scan_in s') (Next.GaveUp e.worker e.first e.last)
