use Rattle.std.proofs.Common.{◌≡◌, ◌+◌, ◌<◌, ℕ, List, length}
use Rattle.ledger_core.specs.Ops.{width}
use Rattle.register_rule.specs.ScanSteps.{given_up_if_spent}
use Rattle.register_rule.specs.declared.seats.Bundle.{Bundle}
use Rattle.register_rule.specs.Seats.{HasMember, table_of, members_of}
use Rattle.snapshot_scan.specs.declared.remembered_row.RememberedRow.{RememberedRow}
use Rattle.snapshot_scan.specs.Shape.{scan_of, with_scan, IsRuled}
use Rattle.snapshot_scan.specs.ChangedItems.{Lists}
use Rattle.register_rule.specs.History.{Below}
use Rattle.snapshot_scan.specs.Conditions.{MayTry, HasFailedOnce}
use Rattle.snapshot_scan.specs.Scanned.{Tried}
use Rattle.snapshot_scan.proofs.Trying.{stood, AreTries}
use mathlib.Core.Option.{some}
use lib.ListN.{get_elem?}
use Rattle.snapshot_scan.proofs.scan_memory.ScanMemory.later_tries.Given as goal

abbrev pub invariant-loop-k : goal.invariant-loop-k
invariant-loop-k g l = let bundle = g.S.ScanSeat.bundle in let w : ℕ = width g.row.C g.row.H g.row.G in
    let m = l.self in let m0 = l.fn.self in
    (s : Bundle) (gs : List RememberedRow) (sums : List ℕ) → HasFailedOnce l.board s
    (bundle l.fn.seat) gs m0.remembered.items sums m0.totals.items m0.opened.items m0.found.items m0.changed_totals
    → (tries : List Tried) × record {
      table : table_of (bundle l.seat) ≡ table_of s;
      ruled : IsRuled g.row.N g.row.C g.row.H g.row.G (bundle l.seat);
      leads : HasMember (members_of (bundle l.seat));
      may : l._k < g.row.N + 1 → MayTry l.board (bundle l.seat) m.remembered.items m.opened.items;
      listed : Lists w sums m.totals.items m.changed_totals;
      count : length tries ≡ l._k + 1;
      tried : AreTries g.row.N l.floor l.base m.opened.items m.found.items tries;
      above : (q : ℕ) (t : Tried) → get_elem? tries q ≡ some t → Below (scan_of (members_of s)).seen t.first;
      lengths : (length l.floor ≡ g.row.N) × (length l.base ≡ g.row.N);
      seen : Below (scan_of (members_of s)).seen l.floor;
      view : members_of (bundle l.seat) ≡ with_scan (given_up_if_spent g.row.N (stood tries m.remembered.items l.floor l.base
          (scan_of (members_of s)))) (members_of s);
    }
