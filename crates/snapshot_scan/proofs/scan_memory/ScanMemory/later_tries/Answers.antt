use Rattle.std.proofs.Common.{◌≡◌, ◌+◌, ℕ, List, [], ◌∷◌, ◌++◌, length, map, take, drop, slice_index, sym}
use Rattle.std.proofs.Common.{refl, ap, ◌∙◌, subst, subst₂, arith, rules, Bool, false, cond}
use Rattle.ledger_core.specs.Ops.{width}
use Rattle.ledger_core.specs.Vectors.{is_above}
use Rattle.register_rule.specs.declared.view.Answer.{Answer}
use Rattle.register_rule.specs.declared.view.ScanLog.{ScanLog}
use Rattle.register_rule.specs.ScanSteps.{answered, given_up_if_spent, lent_in}
use Rattle.register_rule.specs.declared.seats.Bundle.{Bundle}
use Rattle.register_rule.specs.Seats.{members_of}
use Rattle.register_rule.specs.History.{Below}
use Rattle.register_rule.proofs.Words.{each_push}
use mathlib.Core.Option.{some-ne-none}
use Rattle.snapshot_scan.specs.declared.scan_memory.ScanMemory.{ScanMemory}
use Rattle.snapshot_scan.specs.declared.try_end.TryEnd.{TryEnd}
use Rattle.snapshot_scan.specs.TryEnds.{is_clean, found_by}
use Rattle.snapshot_scan.specs.Conditions.{HasTried}
use Rattle.snapshot_scan.specs.Shape.{scan_of, with_scan}
use Rattle.snapshot_scan.specs.RememberedRows.{version_of, opening, settling, IsLoaded}
use Rattle.snapshot_scan.specs.Asking.{due_from, asked_worker, MayAsk}
use Rattle.snapshot_scan.specs.Scanned.{Tried, FailedTry, IsAnswered, IsGivenUp}
use Rattle.snapshot_scan.proofs.Words.{written}
use Rattle.snapshot_scan.proofs.Asking.{vector_long}
use Rattle.snapshot_scan.proofs.Trying.{stood, AreTries, given_last, none_due}
use Rattle.snapshot_scan.proofs.Scanning.{now_is, still_some, others_same, then_is, seen_below, direct_later}
use Rattle.snapshot_scan.proofs.Scanning.{moved_later, lent_later, all_failed, tries_more, tries_one, may_start, may_try}
use Rattle.snapshot_scan.proofs.Scanning.{first_starts, at_loop, loop_fails, loop_lends, loop_refuses, count_more}
use Rattle.snapshot_scan.proofs.Ends.{quiet_in, direct_lent, direct_up, lent_direct, lent_up, up_direct, up_lent, not_quiet}
use Rattle.snapshot_core.specs.declared.next.Next.TheVariants.{GaveUp}
use Rattle.snapshot_scan.specs.Core.{CameTo, AnswersBy}
use Rattle.snapshot_scan.proofs.Arriving.{came_later, came_lending, came_up}
use Rattle.snapshot_scan.proofs.Moving.{lists_then}
use Rattle.snapshot_scan.proofs.scan_memory.ScanMemory.later_tries.Goals as goal

-- of a try that failed `found` is what the second collect found
failing : {N C H G : ℕ} (s s' : Bundle) (old new : ScanMemory N C H G) (end : TryEnd) → is_clean end ≡ false
    → HasTried N C H G s s' old.remembered.items new.remembered.items old.totals.items new.totals.items new.opened.items
    (found_by end new.opened.items new.found.items) old.changed_totals new.changed_totals end
    → HasTried N C H G s s' old.remembered.items new.remembered.items old.totals.items new.totals.items new.opened.items
    new.found.items old.changed_totals new.changed_totals end
failing {N} {C} {H} {G} s s' old new end failed tried = subst (λ (l : List ℕ). HasTried N C H G s s' old.remembered.items
    new.remembered.items old.totals.items new.totals.items new.opened.items l old.changed_totals new.changed_totals end)
    (ap (λ (b : Bool). cond b new.opened.items new.found.items) failed) tried

-- the first try is the first of the tries
pub loop-k-init : goal.loop-k-init
loop-k-init g c = λ s gs sums h.
    let ms = members_of s in
    let n : ℕ = g.row.N in let w : ℕ = width g.row.C g.row.H g.row.G in
    let made = h.tried.1 in let lens = c.args.self.now.sizes in
    let old = c.args.self.now in let os = old.opened.items in let fs = old.found.items in let rows = old.remembered.items in
    let fl = c.copy_from_slice.new.self in let ba = c.copy_from_slice-2.new.self in
    let f : os ≡ fl = sym (c.copy_from_slice.ensures.after ∙ c.as_slice.ensures.value) in
    let b : fs ≡ ba = sym (c.copy_from_slice-2.ensures.after ∙ c.as_slice-2.ensures.value) in
    let one : Tried = record { first = os; second = fs; asks = [] } in
    let view : members_of (g.S.ScanSeat.bundle c.args.seat.now) ≡ with_scan
    (given_up_if_spent n (stood (one ∷ []) rows os fs (scan_of ms))) ms =
    made.failed refl ∙ ap (λ (x : ScanLog). with_scan (given_up_if_spent n x) ms)
    (first_starts n w os fs rows (scan_of ms) lens.0 lens.2 lens.3 h.idle.rest) in
    let failed : FailedTry n os fs one = record {
      opened = lens.2;
      found = lens.3;
      risen = made.risen;
      rose = made.rose refl;
      asked = sym (none_due 0 fs);
      none = λ q e at. absurd (some-ne-none e (sym at));
    } in
    let stands : members_of (g.S.ScanSeat.bundle c.args.seat.now) ≡ with_scan
    (given_up_if_spent n (stood (one ∷ []) rows fl ba (scan_of ms))) ms =
    view ∙ (λ z. with_scan (given_up_if_spent n (stood (one ∷ []) rows (f z) (b z) (scan_of ms))) ms) in (
      one ∷ [],
      record {
        table = made.table;
        ruled = made.ruled;
        leads = still_some _ ms _ h.of_board.1 view;
        may = may_try c.args.board.now s (g.S.ScanSeat.bundle c.args.seat.now) 0 (one ∷ []) rows fl ba os h.of_board
            c.args.self.now.geometry made.table lens.0 lens.2 made.wide refl stands;
        listed = h.listed;
        count = refl;
        above = each_push (λ (t : Tried). Below (scan_of ms).seen t.first) [] one (λ p y at. absurd (some-ne-none y (sym at)))
            (seen_below n (scan_of ms) os lens.2 made.told);
        tried = subst (λ (x : List ℕ). AreTries n x ba os fs (one ∷ [])) f
            (subst (λ (x : List ℕ). AreTries n os x os fs (one ∷ [])) b (tries_one n os fs failed));
        lengths = (ap (λ (l : List ℕ). length l) (sym f) ∙ lens.2, ap (λ (l : List ℕ). length l) (sym b) ∙ lens.3);
        seen = subst (λ (x : List ℕ). Below (scan_of ms).seen x) f (seen_below n (scan_of ms) os lens.2 made.told);
        view = stands;
      },
    )

pub one_try-tried-requires : goal.one_try-tried-requires
one_try-tried-requires g c =
    let z = c.requires.failed in let inv = (c.loop-k.invariant z.0 z.1 z.2 z.3).1 in (
      search rules,
      (
        omega arith,
        inv.may
            c.loop-k-test.true,
      ),
    )

pub ask_all-lends-requires : goal.ask_all-lends-requires
ask_all-lends-requires g c =
    let z = c.requires.failed in let s = z.0 in let gs = z.1 in let sums = z.2 in let h = z.3 in
    let ms = members_of s in
    let n : ℕ = g.row.N in let w : ℕ = width g.row.C g.row.H g.row.G in
    let inv = (c.loop-k.invariant s gs sums h).1 in let tries = (c.loop-k.invariant s gs sums h).0 in
    let lens = c.args.self.now.sizes in
    let fl = c.copy_from_slice.new.self in let ba = c.copy_from_slice-2.new.self in
    let r = c.one_try-tried.new.self in let clean = sym c.is_clean-clean.ensures ∙ c.if-clean.false in
    let made = failing (g.S.ScanSeat.bundle c.loop-k.seat) (g.S.ScanSeat.bundle c.one_try-tried.new.seat) c.loop-k.self r
    c.one_try-tried.result clean c.one_try-tried.ensures in
    let few : length r.remembered.items ≡ n = r.sizes.0 in
    let long : length r.opened.items ≡ n = r.sizes.2 in
    let deep : length r.found.items ≡ n = r.sizes.3 in
    let view = at_loop n c.loop-k._k tries c.loop-k.self.remembered.items fl ba ms _ inv.count c.loop-k-test.true inv.view in
    let d : ScanLog = stood tries c.loop-k.self.remembered.items fl ba (scan_of ms) in
    let fails = loop_fails n w c.loop-k._k r.opened.items r.found.items r.remembered.items c.loop-k.self.remembered.items few long
    deep tries fl ba ms _ _
    h.of_board.1 inv.count view (made.failed clean) in
    let scan = now_is _ ms _ h.of_board.1 fails in (
      search rules,
      record {
        of_board = (
          made.table ∙ (inv.table ∙ h.of_board.0),
          still_some _ ms _ h.of_board.1 fails,
        );
        ruled = made.ruled;
        geometry = c.args.self.now.geometry;
        lengths = (
          search rules,
          inv.lengths.0,
          inv.lengths.1,
          ap (λ (l : List ℕ). length l) c.as_slice-in-loop-k.ensures.value ∙ deep,
          ap (λ (l : List ℕ). length l) c.as_mut_slice-lent.ensures.value ∙ r.sizes.4,
        );
        may_ask = subst₂ (λ (x : ScanLog) (y : List ℕ). MayAsk fl (due_from 0 ba y) x) (sym scan) (sym
            c.as_slice-in-loop-k.ensures.value)
            (may_start n r.opened.items r.found.items r.remembered.items fl ba (due_from 0 ba r.found.items) d);
      },
    )

pub loop-k-preserved : goal.loop-k-preserved
loop-k-preserved g c = λ s gs sums h.
    let ms = members_of s in
    let n : ℕ = g.row.N in let w : ℕ = width g.row.C g.row.H g.row.G in
    let inv = (c.loop-k.invariant s gs sums h).1 in let tries = (c.loop-k.invariant s gs sums h).0 in
    let lens = c.args.self.now.sizes in
    let fl = c.copy_from_slice.new.self in let ba = c.copy_from_slice-2.new.self in
    let r = c.one_try-tried.new.self in let clean = sym c.is_clean-clean.ensures ∙ c.if-clean.false in
    let made = failing (g.S.ScanSeat.bundle c.loop-k.seat) (g.S.ScanSeat.bundle c.one_try-tried.new.seat) c.loop-k.self r
    c.one_try-tried.result clean c.one_try-tried.ensures in
    let few : length r.remembered.items ≡ n = r.sizes.0 in
    let long : length r.opened.items ≡ n = r.sizes.2 in
    let deep : length r.found.items ≡ n = r.sizes.3 in
    let view = at_loop n c.loop-k._k tries c.loop-k.self.remembered.items fl ba ms _ inv.count c.loop-k-test.true inv.view in
    let d : ScanLog = stood tries c.loop-k.self.remembered.items fl ba (scan_of ms) in
    let fails = loop_fails n w c.loop-k._k r.opened.items r.found.items r.remembered.items c.loop-k.self.remembered.items few long
    deep tries fl ba ms _ _
    h.of_board.1 inv.count view (made.failed clean) in
    let q = c.ask_all-lends.ensures.refuses c.if-lends.false in
    let asked = q.1 ∙ ap (due_from 0 ba) c.as_slice-in-loop-k.ensures.value in
    let t : Tried = record { first = r.opened.items; second = r.found.items; asks = q.0 } in
    let end = loop_refuses n w c.loop-k._k r.opened.items r.found.items r.remembered.items c.loop-k.self.remembered.items few long
    deep tries fl ba ms _ _
    h.of_board.1 inv.count view _ q.0 fails asked q.3 in
    let failed : FailedTry n fl ba t = record {
      opened = long;
      found = deep;
      risen = made.risen;
      rose = made.rose clean;
      asked = asked;
      none = q.2;
    } in let own = c.ask_all-lends.ensures.table ∙ (made.table ∙ inv.table) in (
      tries ++ t ∷ [],
      record {
        table = own;
        ruled = c.ask_all-lends.ensures.ruled;
        leads = still_some _ ms _ h.of_board.1 end;
        may = may_try c.args.board.now s (g.S.ScanSeat.bundle c.ask_all-lends.new.seat)
            (c.loop-k._k + 1) (tries ++ t ∷ []) r.remembered.items fl ba r.opened.items h.of_board c.args.self.now.geometry own
            few long
            made.wide (count_more tries t c.loop-k._k inv.count) end;
        listed = lists_then w sums c.loop-k.self.totals.items r.totals.items c.loop-k.self.changed_totals r.changed_totals
            inv.listed
            made.listed;
        count = count_more tries t c.loop-k._k inv.count;
        above = each_push (λ (u : Tried). Below (scan_of ms).seen u.first) tries t inv.above
            (seen_below n (stood tries c.loop-k.self.remembered.items fl ba (scan_of ms)) r.opened.items long
            (λ p lt. subst (λ (x : ScanLog). IsLoaded p x (slice_index r.opened.items p)) (now_is d ms _ h.of_board.1 view)
            (made.told p lt)));
        tried = tries_more n fl ba c.loop-k.self.opened.items c.loop-k.self.found.items tries inv.tried
            c.loop-k.self.remembered.items
            (scan_of ms) r.opened.items r.found.items q.0
            failed;
        lengths = inv.lengths;
        seen = inv.seen;
        view = end;
      },
    )

pub returns-then-clean : goal.returns-then-clean
returns-then-clean g c = λ s gs sums h.
    let ms = members_of s in
    let n : ℕ = g.row.N in let w : ℕ = width g.row.C g.row.H g.row.G in
    let inv = (c.loop-k.invariant s gs sums h).1 in let tries = (c.loop-k.invariant s gs sums h).0 in
    let lens = c.args.self.now.sizes in
    let fl = c.copy_from_slice.new.self in let ba = c.copy_from_slice-2.new.self in
    let made = c.one_try-tried.ensures in let r = c.one_try-tried.new.self in
    let is = sym c.is_clean-clean.ensures ∙ c.if-clean.true in let clean = made.clean is in
    let found = found_by c.one_try-tried.result r.opened.items r.found.items in
    let long : length r.opened.items ≡ n = r.sizes.2 in
    let a : Answer = record { vector = r.opened.items; totals = r.totals.items } in
    let view = at_loop n c.loop-k._k tries c.loop-k.self.remembered.items fl ba ms _ inv.count c.loop-k-test.true inv.view in
    let d : ScanLog = stood tries c.loop-k.self.remembered.items fl ba (scan_of ms) in
    let end = then_is (λ (x : ScanLog). answered a (settling r.opened.items found r.remembered.items
    (opening r.opened.items r.remembered.items x))) d ms _ _
    h.of_board.1 view clean in
    let scan = now_is _ ms _ h.of_board.1 end in let count = inv.count in let lt = c.loop-k-test.true in
    record {
      table = made.table ∙ inv.table;
      ruled = made.ruled;
      wide = made.wide;
      totals = made.totals;
      idle = record { remembered = ap (λ (x : ScanLog). x.remembered) scan; rest = ap (λ (x : ScanLog). x.trying) scan };
      others = others_same _ ms _ h.of_board.1 end;
      direct = λ _ _. subst (λ (x : ScanLog). IsAnswered n (scan_of ms) x a) (sym scan)
          (direct_later n fl ba c.loop-k.self.opened.items c.loop-k.self.found.items tries inv.tried
          c.loop-k.self.remembered.items
          (scan_of ms) r.opened.items found r.totals.items
          r.remembered.items inv.lengths.0 long
          (λ q low. subst (λ (x : ScanLog). IsLoaded q x (slice_index r.opened.items q)) (now_is d ms _ h.of_board.1 view)
          (made.told q low)));
      came_direct = λ _ _. subst (λ (x : ScanLog). AnswersBy n w (scan_of ms) x a) (sym scan)
          (came_later n w fl ba c.loop-k.self.opened.items c.loop-k.self.found.items tries inv.tried
          c.loop-k.self.remembered.items
          (scan_of ms) r.opened.items found r.remembered.items a
          long (made.same is) (omega (arith, count, lt)) refl);
      quiet = λ e. absurd (not_quiet (ap quiet_in e));
      once = λ e. absurd (not_quiet (ap quiet_in e));
      moved = λ _. moved_later n fl ba c.loop-k.self.opened.items c.loop-k.self.found.items tries inv.tried
          c.loop-k.self.remembered.items (scan_of ms)
          (map version_of gs) r.opened.items _ c.args.self.now.geometry.workers.0 inv.lengths.0 long
          (ap (λ (x : ScanLog). x.opened) scan);
      lent = λ e. absurd (direct_lent _ e);
      came_lent = λ e. absurd (direct_lent _ e);
      numbers = λ _ _. made.numbers is;
      listed = lists_then w sums c.loop-k.self.totals.items r.totals.items c.loop-k.self.changed_totals r.changed_totals
          inv.listed made.listed;
      gave_up = λ e. absurd (direct_up _ e);
      came_up = λ e. absurd (direct_up _ e);
    }

pub returns-then-lends : goal.returns-then-lends
returns-then-lends g c = λ s gs sums h.
    let ms = members_of s in
    let n : ℕ = g.row.N in let w : ℕ = width g.row.C g.row.H g.row.G in
    let inv = (c.loop-k.invariant s gs sums h).1 in let tries = (c.loop-k.invariant s gs sums h).0 in
    let lens = c.args.self.now.sizes in
    let fl = c.copy_from_slice.new.self in let ba = c.copy_from_slice-2.new.self in
    let r = c.one_try-tried.new.self in let failed = sym c.is_clean-clean.ensures ∙ c.if-clean.false in
    let made = failing (g.S.ScanSeat.bundle c.loop-k.seat) (g.S.ScanSeat.bundle c.one_try-tried.new.seat) c.loop-k.self r
    c.one_try-tried.result failed c.one_try-tried.ensures in
    let few : length r.remembered.items ≡ n = r.sizes.0 in
    let long : length r.opened.items ≡ n = r.sizes.2 in
    let deep : length r.found.items ≡ n = r.sizes.3 in
    let view = at_loop n c.loop-k._k tries c.loop-k.self.remembered.items fl ba ms _ inv.count c.loop-k-test.true inv.view in
    let fails = loop_fails n w c.loop-k._k r.opened.items r.found.items r.remembered.items c.loop-k.self.remembered.items few long
    deep tries fl ba ms _ _
    h.of_board.1 inv.count view (made.failed failed) in
    let l = c.ask_all-lends.ensures.lends c.if-lends.true in let lent = c.ask_all-lends.new.lent in
    let a = lent_in n w lent in let slot = c.as_mut_slice-lent in
    let asked = l.3 ∙ ap (due_from 0 ba) c.as_slice-in-loop-k.ensures.value in
    let words = sym (written lent slot.result.now r.lent.items r.lent.len slot.ensures.value slot.ensures.len
    c.ask_all-lends.auto.lent) in
    let wide = c.ask_all-lends.auto.lent ∙ (ap (λ (l : List ℕ). length l) slot.ensures.value ∙ r.sizes.4) in
    let end = loop_lends n w c.loop-k._k r.opened.items r.found.items r.remembered.items c.loop-k.self.remembered.items few long
    deep tries fl ba ms _ _
    h.of_board.1 inv.count view _ a l.1 l.0 l.2 fails asked l.7 in
    let scan = now_is _ ms _ h.of_board.1 end in let count = inv.count in let lt = c.loop-k-test.true in
    record {
      table = c.ask_all-lends.ensures.table ∙ (made.table ∙ inv.table);
      ruled = c.ask_all-lends.ensures.ruled;
      wide = made.wide;
      totals = made.totals;
      idle = record { remembered = ap (λ (x : ScanLog). x.remembered) scan; rest = ap (λ (x : ScanLog). x.trying) scan };
      others = others_same _ ms _ h.of_board.1 end;
      direct = λ q e. absurd (lent_direct q e);
      came_direct = λ q e. absurd (lent_direct q e);
      quiet = λ e. absurd (lent_direct _ e);
      once = λ e. absurd (lent_direct _ e);
      moved = λ e. absurd (lent_direct _ e);
      lent = λ _. subst₂ (λ (x : ScanLog) (z : List ℕ). IsAnswered n (scan_of ms) x (lent_in n w z)) (sym scan) words
          (lent_later n fl ba c.loop-k.self.opened.items c.loop-k.self.found.items tries inv.tried c.loop-k.self.remembered.items
          (scan_of ms) r.opened.items r.found.items r.remembered.items a l.1
          l.0 (asked_worker l.1 ∷ l.2) inv.lengths.0
          (vector_long n w lent wide) inv.seen
          (ap (λ (ws : List ℕ). is_above fl (take n (drop 1 ws))) (sym l.5) ∙ l.6.above));
      came_lent = λ _. subst₂ (λ (x : ScanLog) (z : List ℕ). AnswersBy n w (scan_of ms) x (lent_in n w z)) (sym scan) words
          (came_lending n w fl ba c.loop-k.self.opened.items c.loop-k.self.found.items tries inv.tried
          c.loop-k.self.remembered.items
          (scan_of ms) r.opened.items r.found.items r.remembered.items a
          l.1 l.0 l.2 (asked_worker l.1 ∷ l.2) long deep (omega (arith, count, lt)) (made.rose failed) asked l.4 l.6
          (ap (lent_in n w) (sym l.5)));
      numbers = λ q e. absurd (lent_direct q e);
      listed = lists_then w sums c.loop-k.self.totals.items r.totals.items c.loop-k.self.changed_totals r.changed_totals
          inv.listed made.listed;
      gave_up = λ e. absurd (lent_up e);
      came_up = λ e. absurd (lent_up e);
    }

pub returns : goal.returns
returns g c = λ s gs sums h.
    let ms = members_of s in
    let n : ℕ = g.row.N in let w : ℕ = width g.row.C g.row.H g.row.G in
    let inv = (c.loop-k.invariant s gs sums h).1 in let tries = (c.loop-k.invariant s gs sums h).0 in
    let lens = c.args.self.now.sizes in
    let fl = c.copy_from_slice.new.self in let ba = c.copy_from_slice-2.new.self in
    let t = c.loop-k-test.false in let last = c.loop-k.auto._k-end in let count = inv.count in
    let scan = now_is _ ms _ h.of_board.1 inv.view in
    record {
      table = inv.table;
      ruled = inv.ruled;
      wide = c.loop-k.self.wide;
      totals = c.loop-k.self.sums;
      idle = let rest = scan ∙ given_last n (stood tries c.loop-k.self.remembered.items fl ba (scan_of ms)) refl
          (omega (arith, count, t, last)) in
          record { remembered = ap (λ (x : ScanLog). x.remembered) rest; rest = ap (λ (x : ScanLog). x.trying) rest };
      others = others_same _ ms _ h.of_board.1 inv.view;
      direct = λ q e. absurd (up_direct q e);
      came_direct = λ q e. absurd (up_direct q e);
      quiet = λ e. absurd (up_direct _ e);
      once = λ e. absurd (up_direct _ e);
      moved = λ e. absurd (up_direct _ e);
      lent = λ e. absurd (up_lent e);
      came_lent = λ e. absurd (up_lent e);
      numbers = λ q e. absurd (up_direct q e);
      listed = inv.listed;
      gave_up = λ _. subst (λ (x : ScanLog). IsGivenUp n (scan_of ms) x c.loop-k.self.opened.items c.loop-k.self.found.items) (sym
          scan)
          (all_failed n fl ba c.loop-k.self.opened.items c.loop-k.self.found.items tries inv.tried c.loop-k.self.remembered.items
          (scan_of ms) (omega
          (arith, count, t, last))
          inv.above);
      came_up = λ _ e moved. subst (λ (x : ScanLog). CameTo n w (scan_of ms) x (GaveUp e.worker e.first e.last)) (sym scan)
          (came_up n w fl ba c.loop-k.self.opened.items c.loop-k.self.found.items tries inv.tried c.loop-k.self.remembered.items
          (scan_of ms) (omega
          (arith, count, t, last)) e
          moved);
    }
