use Rattle.std.proofs.Common.{◌≡◌, ℕ, List, [], map, subst, sym, refl, ap, ◌∙◌, rules, arith, Bool}
use Rattle.std.proofs.Common.{false, cond}
use Rattle.ledger_core.specs.Ops.{width}
use Rattle.register_rule.specs.declared.view.Answer.{Answer}
use Rattle.register_rule.specs.declared.view.ScanLog.{ScanLog}
use Rattle.register_rule.specs.declared.view.Version.{Version}
use Rattle.register_rule.specs.ScanSteps.{lent_in}
use Rattle.register_rule.specs.declared.board.Board.{Board}
use Rattle.register_rule.specs.declared.seats.Bundle.{Bundle}
use Rattle.register_rule.specs.Seats.{MayScan, members_of}
use Rattle.snapshot_scan.specs.declared.remembered_row.RememberedRow.{RememberedRow}
use Rattle.snapshot_scan.specs.declared.scan_end.ScanEnd.{ScanEnd}
use Rattle.snapshot_scan.specs.declared.scan_end.ScanEnd.TheVariants.{Direct, Lent, GaveUp}
use Rattle.snapshot_scan.specs.declared.scan_memory.ScanMemory.{ScanMemory}
use Rattle.snapshot_scan.specs.declared.try_end.TryEnd.{TryEnd}
use Rattle.snapshot_scan.specs.ChangedItems.{ChangedView}
use Rattle.snapshot_scan.specs.ScanMemories.{HasView, IsReady, answer_of}
use Rattle.snapshot_scan.specs.TryEnds.{is_clean, found_by}
use Rattle.snapshot_scan.specs.Shape.{scan_of, scan_in}
use Rattle.snapshot_scan.specs.RememberedRows.{AreKnown, AreNumbers, version_of}
use Rattle.snapshot_scan.specs.Scanned.{IsAnswered}
use Rattle.snapshot_scan.specs.Conditions.{HasTried, HasFailedOnce, HasEnded}
use Rattle.snapshot_scan.specs.Core.{AnswersBy}
use Rattle.snapshot_scan.proofs.Blank.{from_rows}
use Rattle.snapshot_scan.proofs.Scanning.{now_is, others_same, direct_first, moved_first, failed_once}
use Rattle.snapshot_scan.proofs.Ends.{quiet_in, direct_up}
use Rattle.snapshot_scan.proofs.Arriving.{came_first}
use Rattle.snapshot_scan.proofs.Moving.{lists_first}
use Rattle.snapshot_scan.proofs.scan_memory.ScanMemory.scan.Goals as goal

-- rows that are known are those of the numbers
numbers_of : (gs : List RememberedRow) (opened : List ℕ) → AreKnown opened gs → AreNumbers opened (map version_of gs)
numbers_of gs opened known = λ p v at. let t = from_rows gs p v at in ap (λ (x : Version). x.number) (sym t.2) ∙ known p t.0 t.1

-- a fact of the answer, by the way that the scan ended
by_ending : {N C H G : ℕ} (P : Answer → Type 0) (m : ScanMemory N C H G) (r : ScanEnd)
    → ((q : Bool) → r ≡ Direct q → P (record { vector = m.opened.items; totals = m.totals.items }))
    → (r ≡ Lent → P (lent_in N (width C H G) m.lent.items)) → HasView r → P (answer_of m r)
by_ending P m (Direct q) direct lends view = direct q refl
by_ending P m Lent direct lends view = lends refl
by_ending P m GaveUp direct lends view = absurd view

pub one_try-tried-requires : goal.one_try-tried-requires
one_try-tried-requires g c = let old = c.args.self.now in let idle = c.requires.ready in (
  search rules,
  (
    omega arith,
    record {
      of_board = c.requires.of_board;
      geometry = old.geometry;
      lengths = (old.sizes.0, old.sizes.2);
      wide = old.wide;
      remembered = idle.remembered;
      rest = (λ z. (idle.rest z).looks, λ z. (idle.rest z).due, λ z. (idle.rest z).asks);
    },
  ),
)

pub returns-then-clean : goal.returns-then-clean
returns-then-clean g c =
    let ms = members_of (g.S.ScanSeat.bundle c.args.seat.now) in let old = c.args.self.now in
    let n : ℕ = g.row.N in let w : ℕ = width g.row.C g.row.H g.row.G in
    let made = c.one_try-tried.ensures in let r = c.one_try-tried.new.self in
    let is = sym c.is_clean-clean.ensures ∙ c.if-clean.true in let clean = made.clean is in
    let is_quiet = c.is_quiet.ensures in let found = found_by c.one_try-tried.result r.opened.items r.found.items in
    let a : Answer = record { vector = r.opened.items; totals = r.totals.items } in
    let scan = now_is _ ms _ c.requires.of_board.1 clean in
    record {
      table = made.table;
      ruled = made.ruled;
      others = others_same _ ms _ c.requires.of_board.1 clean;
      ready = record { remembered = ap (λ (d : ScanLog). d.remembered) scan; rest = ap (λ (d : ScanLog). d.trying) scan };
      answered = λ _. subst (λ (x : ScanLog). IsAnswered n (scan_of ms) x a) (sym scan)
          (direct_first n r.opened.items found r.totals.items r.remembered.items (scan_of ms) r.sizes.2 made.told);
      answers = λ _. subst (λ (x : ScanLog). AnswersBy n w (scan_of ms) x a) (sym scan)
          (came_first n w r.opened.items found r.remembered.items (scan_of ms) a r.sizes.2 (made.same is) refl);
      quiet = λ e. let q = made.quiet (sym is_quiet ∙ ap quiet_in e) in
          (q.remembered, q.totals, numbers_of r.remembered.items r.opened.items q.known);
      once = λ _. ap (λ (x : ScanLog). x.opened) scan;
      moved = λ e. moved_first n (map version_of old.remembered.items) r.opened.items _ _ r.sizes.2
          (made.unknown is (sym is_quiet ∙ ap quiet_in e)) (ap (λ (x : ScanLog). x.opened) scan);
      numbers = λ _ _. numbers_of r.remembered.items r.opened.items (made.numbers is);
      listed = lists_first w old.totals.items r.totals.items c.clear.new.self r.changed_totals c.clear.ensures.none.1 made.listed;
      gave_up = λ e. absurd (direct_up _ e);
      came_up = λ e. absurd (direct_up _ e);
    }

-- the first try failed
fails : {N C H G : ℕ} (b : Board N C H G) (s s' : Bundle) (old new : ScanMemory N C H G) (empty : ChangedView) (end : TryEnd)
    → MayScan b s → IsReady (scan_in s) old → empty.items ≡ [] → is_clean end ≡ false
    → HasTried N C H G s s' old.remembered.items new.remembered.items old.totals.items new.totals.items new.opened.items
    (found_by end new.opened.items new.found.items) empty new.changed_totals end
    → HasFailedOnce b s s' old.remembered.items new.remembered.items old.totals.items new.totals.items new.opened.items
    new.found.items new.changed_totals
fails {N} {C} {H} {G} b s s' old new empty end of_board ready none failed tried =
    failed_once b s s' old.remembered.items new.remembered.items old.totals.items new.totals.items new.opened.items
    new.found.items
    empty new.changed_totals end of_board ready none failed
    (subst (λ (l : List ℕ). HasTried N C H G s s' old.remembered.items new.remembered.items old.totals.items new.totals.items
    new.opened.items l empty new.changed_totals end) (ap (λ (b : Bool). cond b new.opened.items new.found.items) failed) tried)

pub later_tries-ended-requires : goal.later_tries-ended-requires
later_tries-ended-requires g c =
    let old = c.args.self.now in let s = g.S.ScanSeat.bundle c.args.seat.now in let r = c.one_try-tried in (
      search rules,
      (
        omega arith,
        (
          s,
          old.remembered.items,
          old.totals.items,
          fails c.args.board.now s (g.S.ScanSeat.bundle r.new.seat) old r.new.self c.clear.new.self r.result c.requires.of_board
              c.requires.ready c.clear.ensures.none.1 (sym c.is_clean-clean.ensures ∙ c.if-clean.false) r.ensures,
        ),
      ),
    )

pub returns : goal.returns
returns g c =
    let r = c.one_try-tried in let old = c.args.self.now in let new = c.later_tries-ended.new.self in
    let n : ℕ = g.row.N in let w : ℕ = width g.row.C g.row.H g.row.G in
    let s = g.S.ScanSeat.bundle c.args.seat.now in let s' = g.S.ScanSeat.bundle c.later_tries-ended.new.seat in
    let end = c.later_tries-ended.result in
    let e : HasEnded n g.row.C g.row.H g.row.G s s' old.remembered.items new.remembered.items old.totals.items new.totals.items
    new.opened.items new.found.items new.lent.items new.changed_totals end =
    c.later_tries-ended.ensures s old.remembered.items old.totals.items
    (fails c.args.board.now s (g.S.ScanSeat.bundle r.new.seat) old r.new.self c.clear.new.self r.result c.requires.of_board
    c.requires.ready c.clear.ensures.none.1 (sym c.is_clean-clean.ensures ∙ c.if-clean.false) r.ensures) in
    record {
      table = e.table;
      ruled = e.ruled;
      others = e.others;
      ready = e.idle;
      answered = by_ending (IsAnswered n (scan_in s) (scan_in s')) new end e.direct e.lent;
      answers = by_ending (AnswersBy n w (scan_in s) (scan_in s')) new end e.came_direct e.came_lent;
      quiet = λ t. let q = e.quiet t in (q.remembered, q.totals, numbers_of new.remembered.items new.opened.items q.known);
      once = e.once;
      moved = e.moved;
      numbers = λ q t. numbers_of new.remembered.items new.opened.items (e.numbers q t);
      listed = e.listed;
      gave_up = e.gave_up;
      came_up = e.came_up;
    }
