-- The two collects of a try, place by place.
use Rattle.std.specs.Prelude.{◌≡◌, ◌≢◌, ℕ, ◌<◌, ◌≤◌, ◌==◌, Bool, true, false, cond, List, [], length, map, take, slice_index}
use mathlib.Core.Option.{some}
use lib.ListN.{get_elem?}
use Rattle.ledger_core.specs.Ops.{width, sum_ops}
use Rattle.ledger_core.specs.Row.{Accepts}
use Rattle.register_rule.specs.declared.view.Member.{Member}
use Rattle.register_rule.specs.ScanSteps.{ended}
use Rattle.register_rule.specs.Told.{AreRuled}
use Rattle.register_rule.specs.declared.board.Board.{Board}
use Rattle.register_rule.specs.declared.seats.Bundle.{Bundle}
use Rattle.register_rule.specs.Seats.{HasMember, MayScan}
use Rattle.segment_layout.specs.Layout.{IsGeometry}
use Rattle.snapshot_scan.specs.declared.remembered_row.RememberedRow.{RememberedRow}
use Rattle.snapshot_scan.specs.Shape.{scan_of, scan_in, with_scan}
use Rattle.snapshot_scan.specs.RememberedRows.{AreWide, AreKnown, IsLoaded, version_of, looks_of, opening, settling}

-- a second collect may be made: by a seat that can make steps of a scan, whose member remembers these rows, and has opened all of
-- its board's places at these numbers
pub record MayConfirm {N C H G : ℕ} (b : Board N C H G) (s : Bundle) (gs : List RememberedRow) (opened : List ℕ) : Type 0 where
  pub of_board : MayScan b s
  pub geometry : IsGeometry N C H G
  pub lengths : (length gs ≡ N) × (length opened ≡ N)
  pub wide : AreWide (width C H G) gs
  pub remembered : (scan_in s).remembered ≡ map version_of gs
  pub looks : (scan_in s).trying.looks ≡ looks_of 0 opened [] gs
  pub loaded : (q : ℕ) → q < N → (j : ℕ) × (get_elem? (scan_in s).opened j ≡ some (q, slice_index opened q))

-- a first collect, which the first one of the members `before` began when these rows were remembered, has opened the
-- first p places, at these numbers; `all` says that each of them is the one that is remembered
pub record HasOpened (w p : ℕ) (before : List Member) (rows : List RememberedRow) (after : List Member) (gs : List RememberedRow)
    (opened : List ℕ) (all : Bool) : Type 0 where
  pub starts : HasMember before
  pub remembered : (scan_of before).remembered ≡ map version_of rows
  pub due : (scan_of before).trying.due ≡ []
  pub asks : (scan_of before).trying.asks ≡ []
  pub wide : AreWide w gs
  pub same : map version_of gs ≡ map version_of rows
  pub view : after ≡ with_scan (opening (take p opened) gs (scan_of before)) before
  pub known : all ≡ true → (q : ℕ) (g : RememberedRow) → q < p → get_elem? gs q ≡ some g → g.number ≡ slice_index opened q
  pub unknown : all ≡ false → (q : ℕ) × (g : RememberedRow) × (q < p) × (get_elem? gs q ≡ some g)
      × (g.number ≢ slice_index opened q)
  pub told : (q : ℕ) → q < p → IsLoaded q (scan_of before) (slice_index opened q)

-- a second collect of a try whose n rows are all remembered, which the first one of the members `before` began, has
-- confirmed the first p places, and found these numbers; `all` says that each of them is the one that was opened. A
-- board of c counters, h histograms and g gauges
pub record HasConfirmed (n c h g p : ℕ) (before : List Member) (gs : List RememberedRow) (opened : List ℕ) (after : List Member)
    (found : List ℕ) (all : Bool) : Type 0 where
  pub starts : HasMember before
  pub wide : AreWide (width c h g) gs
  pub known : AreKnown opened gs
  pub loaded : (q : ℕ) → q < n → (j : ℕ) × (get_elem? (scan_of before).opened j ≡ some (q, slice_index opened q))
  pub ruled : 0 < p → AreRuled n (width c h g) (sum_ops c h) (Accepts c h g) after
  pub view : after ≡ with_scan (cond (p == n) (ended n (width c h g) (settling opened (take p found) gs (scan_of before)))
      (settling opened (take p found) gs (scan_of before))) before
  pub risen : (q : ℕ) → q < p → slice_index opened q ≤ slice_index found q
  pub held : all ≡ true → (q : ℕ) → q < p → slice_index opened q ≡ slice_index found q
  pub moved : all ≡ false → (q : ℕ) × (q < p) × (slice_index opened q ≢ slice_index found q)
