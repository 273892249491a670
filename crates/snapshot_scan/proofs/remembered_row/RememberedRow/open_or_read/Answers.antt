use Rattle.std.proofs.Common.{◌≡◌, ◌≢◌, ◌≤◌, ⊎_elim, ℕ, ◌==◌, Bool, cond, List, ◌++◌, length, take, drop, slice_index, sym, ap}
use Rattle.std.proofs.Common.{◌∙◌, subst, arith, ne_eqb}
use Rattle.ledger_core.specs.Ops.{width}
use Rattle.register_rule.specs.Members.{led, scan_changed}
use Rattle.register_rule.specs.ScanSteps.{after_open}
use Rattle.register_rule.specs.Seats.{members_of}
use Rattle.snapshot_scan.specs.Shape.{read_all, looked_at}
use Rattle.snapshot_scan.proofs.Words.{led_led, over}
use Rattle.snapshot_scan.proofs.remembered_row.RememberedRow.open_or_read.Goals as goal

pub returns-then-number-self-clause-member : goal.returns-then-number-self-clause-member
returns-then-number-self-clause-member g c =
    let ws = c.read_row.new.words in
    let w = width g.row.C g.row.H g.row.G in
    let s = c.open-number.result in
    let old = c.args.self.now in
    let ne : old.number ≢ s = λ e. c.if-number-self.true (sym e) in
    let a = c.read_row.auto.words in let v = c.as_mut_slice.ensures.value in
    let n = c.as_mut_slice.ensures.len in
    let e : take old.fresh.len (ws ++ drop (length ws) old.fresh.items) ≡ ws = over ws old.fresh.items old.fresh.len
    (a ∙ ap (λ (l : List ℕ). length l) v) (omega arith) in
    c.read_row.ensures.member ∙ (ap (led (scan_changed (read_all w c.args.place s 0 ws))) c.open-number.ensures.learns.member
    ∙ led_led (read_all w c.args.place s 0 ws) (after_open c.args.place s)
    (looked_at w c.args.place s (old.number == s) (take old.fresh.len (ws ++ drop (length ws) old.fresh.items)))
    (members_of (g.S.ScanSeat.bundle c.args.seat.now))
    (λ d. sym (ap (λ (t : Bool). cond t (after_open c.args.place s d)
    (read_all w c.args.place s 0 (take old.fresh.len (ws ++ drop (length ws) old.fresh.items)) (after_open c.args.place s d)))
    (ne_eqb old.number s ne)
    ∙ ap (λ (l : List ℕ). read_all w c.args.place s 0 l (after_open c.args.place s d)) e)))

pub returns-then-number-self-clause-wide : goal.returns-then-number-self-clause-wide
returns-then-number-self-clause-wide g c =
    let ws = c.read_row.new.words in let old = c.args.self.now in let wide = c.requires.wide in
    let a = c.read_row.auto.words in let v = c.as_mut_slice.ensures.value in let n = c.as_mut_slice.ensures.len in
    let m = c.read_row.ensures.moves in
    let e : take old.fresh.len (ws ++ drop (length ws) old.fresh.items) ≡ ws = over ws old.fresh.items old.fresh.len
    (a ∙ ap (λ (l : List ℕ). length l) v) (omega arith) in
    record {
      row = wide.row;
      fresh = ap (λ (l : List ℕ). length l) e ∙ (a ∙ (ap (λ (l : List ℕ). length l) v ∙ wide.fresh));
      row_low = wide.row_low;
      fresh_low = λ k lt. subst (λ (l : List ℕ). slice_index l k ≤ 281474976710655) (sym e) (c.read_row.ensures.bounded k lt);
      same = λ few k lt none. wide.same (m.listed few) k lt (λ has. none (m.keeps few k has))
          ∙ (ap (λ (l : List ℕ). slice_index l k) (sym v)
          ∙ (sym (m.same few k lt none) ∙ ap (λ (l : List ℕ). slice_index l k) (sym e)));
      inside = λ j has. ⊎_elim (λ was. wide.inside j was) (λ lt. lt) (m.inside j has);
    }
