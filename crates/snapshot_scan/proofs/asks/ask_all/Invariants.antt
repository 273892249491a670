use Rattle.std.proofs.Common.{◌≡◌, ◌<◌, ◌≤◌, ◌+◌, ℕ, List, ◌++◌, length, drop, map, get_or}
use mathlib.Core.Option.{some}
use lib.ListN.{get_elem?}
use Rattle.register_rule.specs.declared.view.Asked.{Asked}
use Rattle.register_rule.specs.Seats.{HasMember, table_of, members_of}
use Rattle.snapshot_scan.specs.Shape.{scan_of, with_scan, IsRuled}
use Rattle.snapshot_scan.specs.Asking.{DoesNotLend, due_from, refused_all, asked_worker, MayAsk}
use Rattle.snapshot_scan.specs.Conditions.{MayAskOne}
use Rattle.snapshot_scan.proofs.asks.ask_all.Given as goal

abbrev pub invariant-loop-place : goal.invariant-loop-place
invariant-loop-place g l = let bundle = g.S.ScanSeat.bundle in let ms = members_of (bundle l.fn.seat) in
    (es : List Asked) × record {
      table : table_of (bundle l.seat) ≡ table_of (bundle l.fn.seat);
      ruled : IsRuled g.row.N g.row.C g.row.H g.row.G (bundle l.seat);
      leads : HasMember (members_of (bundle l.seat));
      asked : map asked_worker es ++ due_from l.place (drop l.place l.base) (drop l.place l.found) ≡ due_from 0 l.base l.found;
      refuses : (q : ℕ) (e : Asked) → get_elem? es q ≡ some e → DoesNotLend g.row.N l.floor e;
      may : MayAsk l.floor (due_from l.place (drop l.place l.base) (drop l.place l.found)) (refused_all g.row.N es (scan_of ms));
      asks : l.place < length l.found → get_or l.base l.place 0 + 2 ≤ get_or l.found l.place 0
          → MayAskOne l.board (bundle l.seat) l.place l.row l.floor l.lent;
      view : members_of (bundle l.seat) ≡ with_scan (refused_all g.row.N es (scan_of ms)) ms;
    }
