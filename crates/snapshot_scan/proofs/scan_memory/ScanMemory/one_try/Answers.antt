use Rattle.std.proofs.Common.{◌≡◌, ⊎_elim, Bool, true, false, cond, refl, ℕ, List, length, map, slice_index, sym, ap, ◌∙◌}
use Rattle.std.proofs.Common.{subst, arith}
use Rattle.std.proofs.Math.Path.{transport}
use Rattle.ledger_core.specs.Ops.{width}
use Rattle.register_rule.specs.declared.view.ScanLog.{ScanLog}
use Rattle.register_rule.specs.ScanSteps.{ended}
use Rattle.register_rule.specs.Seats.{members_of}
use Rattle.snapshot_scan.specs.declared.remembered_row.RememberedRow.{RememberedRow}
use Rattle.snapshot_scan.specs.Conditions.{HasTried}
use Rattle.snapshot_scan.specs.Shape.{scan_of, with_scan}
use Rattle.snapshot_scan.specs.RememberedRows.{AreKnown, AreTotals, AreWide, version_of, opening, settling}
use Rattle.snapshot_scan.proofs.Words.{scan_with, with_led, written}
use Rattle.snapshot_scan.proofs.Trying.{ends_clean, ends_failed, rose_some, true_not_false}
use Rattle.snapshot_scan.proofs.scan_memory.ScanMemory.one_try.Goals as goal

-- where all were found again, they are those that were opened
found_again : (b : Bool) (opened found : List ℕ) → b ≡ true → opened ≡ cond b opened found
found_again true opened found e = refl
found_again false opened found e = absurd (true_not_false (sym e))

either_long : (b : Bool) (opened found : List ℕ) (n : ℕ) → length opened ≡ n → length found ≡ n → length (cond b opened found) ≡ n
either_long true opened found n long deep = long
either_long false opened found n long deep = deep

pub returns : goal.returns
returns g c =
    let old = c.args.self.now in let s = g.S.ScanSeat.bundle c.args.seat.now in let ms = members_of s in
    let n : ℕ = g.row.N in let w : ℕ = width g.row.C g.row.H g.row.G in let end = c.of.result in
    let rows = c.as_mut_slice-remembered in let numbers = c.as_mut_slice-opened in let sums = c.as_mut_slice in
    let again = c.as_mut_slice-2 in
    let s' = g.S.ScanSeat.bundle c.confirm-clean.new.seat in
    let os = c.collect-known.new.opened in let fs0 = c.confirm-clean.new.found in let gs = c.confirm-clean.new.remembered in
    let fs : List ℕ = cond c.confirm-clean.result os fs0 in
    let ts = c.confirm-clean.new.totals in
    let lg = c.confirm-clean.auto.remembered ∙ c.collect-known.auto.remembered in let lo = c.collect-known.auto.opened in
    let lt = c.confirm-clean.auto.totals in let lf = c.confirm-clean.auto.found in
    let few : length gs ≡ n = lg ∙ (ap (λ (l : List RememberedRow). length l) rows.ensures.value ∙ old.sizes.0) in
    let long : length os ≡ n = lo ∙ (ap (λ (l : List ℕ). length l) numbers.ensures.value ∙ old.sizes.2) in
    let deep : length fs ≡ n = either_long c.confirm-clean.result os fs0 n long
    (lf ∙ (ap (λ (l : List ℕ). length l) again.ensures.value ∙ old.sizes.3)) in
    let wide : length ts ≡ w = lt ∙ (ap (λ (l : List ℕ). length l) sums.ensures.value ∙ old.sizes.1) in
    let d : ScanLog = opening os c.collect-known.new.remembered (scan_of ms) in
    let scan : scan_of (members_of (g.S.ScanSeat.bundle c.collect-known.new.seat)) ≡ d =
    ap scan_of c.collect-known.ensures.view ∙ scan_with d ms c.requires.may.of_board.1 in
    let view : members_of s' ≡ with_scan (ended n w (settling os fs gs d)) ms =
    c.confirm-clean.ensures.view
    ∙ (ap (λ (x : ScanLog). with_scan (ended n w (settling os fs gs x)) (members_of
    (g.S.ScanSeat.bundle c.collect-known.new.seat))) scan
    ∙ (ap (with_scan (ended n w (settling os fs gs d))) c.collect-known.ensures.view
    ∙ with_led (λ _. ended n w (settling os fs gs d)) d ms)) in
    let tried : HasTried n g.row.C g.row.H g.row.G s s' rows.result.now gs sums.result.now ts os fs old.changed_totals
    c.confirm-clean.new.changed_totals end = record {
      table = c.confirm-clean.ensures.table ∙ c.collect-known.ensures.table;
      ruled = c.confirm-clean.ensures.ruled;
      wide = c.confirm-clean.ensures.wide;
      totals = c.confirm-clean.ensures.totals;
      told = c.collect-known.ensures.told;
      clean = λ t. let same = found_again c.confirm-clean.result os fs0 (sym c.of.ensures.clean ∙ t) in view
          ∙ ap (λ (x : ScanLog). with_scan x ms)
          (ends_clean n w os fs gs d few long deep c.confirm-clean.ensures.wide ts wide same
          (λ p x at. c.confirm-clean.ensures.held p x at (ap (λ (l : List ℕ). slice_index l p) same))
          c.confirm-clean.ensures.totals);
      same = λ t. found_again c.confirm-clean.result os fs0 (sym c.of.ensures.clean ∙ t);
      failed = λ t. view ∙ ap (λ (x : ScanLog). with_scan x ms)
          (ends_failed n w os fs gs d few long deep c.confirm-clean.ensures.wide
          (λ e. let no = sym c.of.ensures.clean ∙ t in
          c.confirm-clean.ensures.moved no (e ∙ ap (λ (b : Bool). cond b os fs0) no)));
      risen = c.confirm-clean.ensures.risen;
      rose = λ t. let r = rose_some os fs (long ∙ sym deep)
          (λ q low. c.confirm-clean.ensures.risen q (omega (arith, long, low)))
          (λ e. let no = sym c.of.ensures.clean ∙ t in
          c.confirm-clean.ensures.moved no (e ∙ ap (λ (b : Bool). cond b os fs0) no)) in
          (r.0, omega (arith, long, r.1), r.2);
      quiet = λ k. let known = c.of.ensures.quiet k in let q = c.confirm-clean.ensures.quiet known in record {
        remembered = ap (map version_of) q.0 ∙ c.collect-known.ensures.same;
        totals = q.1;
        known = subst (AreKnown os) (sym q.0) (c.collect-known.ensures.known known);
      };
      unknown = λ t k. c.collect-known.ensures.unknown (c.of.ensures.other t k);
      numbers = λ t q x at. c.confirm-clean.ensures.held q x at
          (ap (λ (l : List ℕ). slice_index l q) (found_again c.confirm-clean.result os fs0 (sym c.of.ensures.clean ∙ t)));
      listed = c.confirm-clean.ensures.listed;
    } in
    let eg = sym (written gs rows.result.now old.remembered.items old.remembered.len rows.ensures.value rows.ensures.len lg) in
    let et = sym (written ts sums.result.now old.totals.items old.totals.len sums.ensures.value sums.ensures.len lt) in
    let eo = sym (written os numbers.result.now old.opened.items old.opened.len numbers.ensures.value numbers.ensures.len lo) in
    let ef = sym (written fs0 again.result.now old.found.items old.found.len again.ensures.value again.ensures.len lf) in
    transport (λ z. HasTried n g.row.C g.row.H g.row.G s s' (rows.ensures.value z) (eg z) (sums.ensures.value z) (et z) (eo z)
    (cond (sym c.of.ensures.clean z) (eo z) (ef z)) old.changed_totals c.confirm-clean.new.changed_totals end) tried

pub invariant_of-self : goal.invariant_of-self
invariant_of-self g c =
    let old = c.args.self.now in let w : ℕ = width g.row.C g.row.H g.row.G in
    let rows = c.as_mut_slice-remembered in let numbers = c.as_mut_slice-opened in let sums = c.as_mut_slice in
    let again = c.as_mut_slice-2 in
    let lg = c.confirm-clean.auto.remembered ∙ c.collect-known.auto.remembered in let lo = c.collect-known.auto.opened in
    let lt = c.confirm-clean.auto.totals in let lf = c.confirm-clean.auto.found in
    let eg = written c.confirm-clean.new.remembered rows.result.now old.remembered.items old.remembered.len rows.ensures.value
    rows.ensures.len lg in
    let et = written c.confirm-clean.new.totals sums.result.now old.totals.items old.totals.len sums.ensures.value
    sums.ensures.len
    lt in
    let eo = written c.collect-known.new.opened numbers.result.now old.opened.items old.opened.len numbers.ensures.value
    numbers.ensures.len lo in
    let ef = written c.confirm-clean.new.found again.result.now old.found.items old.found.len again.ensures.value
    again.ensures.len
    lf in
    record {
      geometry = old.geometry;
      sizes = (
        ap (λ (l : List RememberedRow). length l) eg
            ∙ (lg ∙ (ap (λ (l : List RememberedRow). length l) rows.ensures.value ∙ old.sizes.0)),
        ap (λ (l : List ℕ). length l) et ∙ (lt ∙ (ap (λ (l : List ℕ). length l) sums.ensures.value ∙ old.sizes.1)),
        ap (λ (l : List ℕ). length l) eo ∙ (lo ∙ (ap (λ (l : List ℕ). length l) numbers.ensures.value ∙ old.sizes.2)),
        ap (λ (l : List ℕ). length l) ef ∙ (lf ∙ (ap (λ (l : List ℕ). length l) again.ensures.value ∙ old.sizes.3)),
        old.sizes.4,
      );
      wide = subst (AreWide w) (sym eg) c.confirm-clean.ensures.wide;
      sums = transport (λ z. AreTotals w (sym eg z) (sym et z)) c.confirm-clean.ensures.totals;
      listed = λ j at. ⊎_elim (λ before. old.listed j before) (λ below. below) (c.confirm-clean.ensures.listed.inside j at);
    }
