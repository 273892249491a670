use Rattle.std.proofs.Common.{◌≡◌, ◌+◌, ◌-◌, ℕ, ◌==◌, ◌&&◌, Bool, true, false, List, length, take, drop, slice_index, sym, refl}
use Rattle.std.proofs.Common.{ap, ◌∙◌, arith, eq-eqb, ne_eqb}
use Rattle.ledger_core.specs.Ops.{width, sum_ops}
use Rattle.ledger_core.specs.Row.{Accepts}
use Rattle.ledger_core.specs.Vectors.{is_above}
use Rattle.register_rule.specs.declared.view.ScanLog.{ScanLog}
use Rattle.register_rule.specs.ScanSteps.{begun, is_lender, asked_of, after_ask, after_end_ask}
use Rattle.register_rule.specs.Members.{led, scan_changed}
use Rattle.register_rule.specs.Seats.{members_of}
use Rattle.snapshot_scan.specs.Shape.{scan_of, with_scan, read_all}
use Rattle.snapshot_scan.proofs.Asking.{refuses_of, view_lends, three}
use Rattle.snapshot_scan.proofs.asks.ask.Goals as goal

pub returns-then-number-again-clause-refuses : goal.returns-then-number-again-clause-refuses
returns-then-number-again-clause-refuses g c = λ _.
    let n : ℕ = g.row.N in let w : ℕ = width g.row.C g.row.H g.row.G in
    let ws = c.read_items.new.words in let s = c.ask-number.result in let again = c.end_ask-again.result in
    let floor = c.args.floor.now in
    let row : c.args.row ≡ w = c.requires.lengths.0 in
    let long : length ws ≡ 1 + n + w = c.read_items.auto.words ∙ c.requires.lengths.2 in
    let differ : is_lender n w again floor (begun c.args.place s ws) ≡ false =
    ap (λ (b : Bool). b && length ws == 1 + n + w && slice_index ws 0 == 1 && is_above floor (take n (drop 1 ws)))
    (ne_eqb s again c.if-number-again.true) in
    refuses_of n w c.args.place s again ws c.requires.next.0 floor (sum_ops g.row.C g.row.H) (Accepts g.row.C g.row.H g.row.G) _ _
    _ _ c.requires.of_board.1 c.ask-number.ensures.learns.member
    (c.read_items.ensures.member
    ∙ ap (λ (z : ℕ). led (scan_changed (read_all w c.args.place s z ws))
    (members_of (g.S.ScanSeat.bundle c.ask-number.new.seat))) row) c.end_ask-again.ensures.learns.member
    c.requires.next.1 c.requires.rest.0 c.requires.floor long c.requires.lengths.1 c.end_ask-again.ensures.learns.ruled differ

pub returns-then-lent-ne1-clause-refuses : goal.returns-then-lent-ne1-clause-refuses
returns-then-lent-ne1-clause-refuses g c = λ _.
    let n : ℕ = g.row.N in let w : ℕ = width g.row.C g.row.H g.row.G in
    let ws = c.read_items.new.words in let s = c.ask-number.result in let again = c.end_ask-again.result in
    let floor = c.args.floor.now in
    let row : c.args.row ≡ w = c.requires.lengths.0 in
    let long : length ws ≡ 1 + n + w = c.read_items.auto.words ∙ c.requires.lengths.2 in
    let differ : is_lender n w again floor (begun c.args.place s ws) ≡ false = λ z. eq-eqb s again c.if-number-again.false z &&
    eq-eqb (length ws) (1 + n + w) long z && ne_eqb (slice_index ws 0) 1 c.if-lent-ne1.true z && is_above floor
    (take n (drop 1 ws)) in
    refuses_of n w c.args.place s again ws c.requires.next.0 floor (sum_ops g.row.C g.row.H) (Accepts g.row.C g.row.H g.row.G) _ _
    _ _ c.requires.of_board.1 c.ask-number.ensures.learns.member
    (c.read_items.ensures.member
    ∙ ap (λ (z : ℕ). led (scan_changed (read_all w c.args.place s z ws))
    (members_of (g.S.ScanSeat.bundle c.ask-number.new.seat))) row) c.end_ask-again.ensures.learns.member
    c.requires.next.1 c.requires.rest.0 c.requires.floor long c.requires.lengths.1 c.end_ask-again.ensures.learns.ruled differ

pub returns-clause-lends : goal.returns-clause-lends
returns-clause-lends g c = λ hit.
    let n : ℕ = g.row.N in let w : ℕ = width g.row.C g.row.H g.row.G in
    let ws = c.read_items.new.words in let s = c.ask-number.result in let again = c.end_ask-again.result in
    let floor = c.args.floor.now in
    let ms = members_of (g.S.ScanSeat.bundle c.args.seat.now) in
    let row : c.args.row ≡ w = c.requires.lengths.0 in
    let long : length ws ≡ 1 + n + w = c.read_items.auto.words ∙ c.requires.lengths.2 in
    let above : is_above floor (take n (drop 1 ws)) ≡ true =
    (let few = c.requires.lengths.1 in let m : n ≡ (1 + length floor) - 1 = omega (arith, few) in
    ap (λ (k : ℕ). is_above floor (take k (drop 1 ws))) m ∙ (sym c.is_above.ensures ∙ hit)) in
    let all : is_lender n w again (scan_of ms).trying.floor (begun c.args.place s ws) ≡ true =
    ap (λ (f : List ℕ). is_lender n w again f (begun c.args.place s ws)) c.requires.floor
    ∙ (λ z. eq-eqb s again c.if-number-again.false z && eq-eqb (length ws) (1 + n + w) long z && eq-eqb (slice_index ws 0) 1
    c.if-lent-ne1.false z && above z) in (
      asked_of again (begun c.args.place s ws),
      refl,
      refl,
      record { same = c.if-number-again.false; all = long; flag = c.if-lent-ne1.false; above = above },
      three (after_ask c.args.place s) (read_all w c.args.place s w ws) (after_end_ask n w c.args.place again) _ _ _ _
          c.ask-number.ensures.learns.member
          (c.read_items.ensures.member
          ∙ ap (λ (z : ℕ). led (scan_changed (read_all w c.args.place s z ws))
          (members_of (g.S.ScanSeat.bundle c.ask-number.new.seat))) row) c.end_ask-again.ensures.learns.member
          ∙ ap (λ (d : ScanLog). with_scan d ms)
          (view_lends n w c.args.place s again ws c.requires.next.0 (scan_of ms) c.requires.next.1 c.requires.rest.0 all),
    )

pub returns-clause-refuses : goal.returns-clause-refuses
returns-clause-refuses g c = λ not_lent.
    let n : ℕ = g.row.N in let w : ℕ = width g.row.C g.row.H g.row.G in
    let ws = c.read_items.new.words in let s = c.ask-number.result in let again = c.end_ask-again.result in
    let floor = c.args.floor.now in
    let row : c.args.row ≡ w = c.requires.lengths.0 in
    let long : length ws ≡ 1 + n + w = c.read_items.auto.words ∙ c.requires.lengths.2 in
    let under : is_above floor (take n (drop 1 ws)) ≡ false =
    (let few = c.requires.lengths.1 in let m : n ≡ (1 + length floor) - 1 = omega (arith, few) in
    ap (λ (k : ℕ). is_above floor (take k (drop 1 ws))) m ∙ (sym c.is_above.ensures ∙ not_lent)) in
    let differ : is_lender n w again floor (begun c.args.place s ws) ≡ false = λ z. eq-eqb s again c.if-number-again.false z &&
    eq-eqb (length ws) (1 + n + w) long z && eq-eqb (slice_index ws 0) 1 c.if-lent-ne1.false z && under z in
    refuses_of n w c.args.place s again ws c.requires.next.0 floor (sum_ops g.row.C g.row.H) (Accepts g.row.C g.row.H g.row.G) _ _
    _ _ c.requires.of_board.1 c.ask-number.ensures.learns.member
    (c.read_items.ensures.member
    ∙ ap (λ (z : ℕ). led (scan_changed (read_all w c.args.place s z ws))
    (members_of (g.S.ScanSeat.bundle c.ask-number.new.seat))) row) c.end_ask-again.ensures.learns.member
    c.requires.next.1 c.requires.rest.0 c.requires.floor long c.requires.lengths.1 c.end_ask-again.ensures.learns.ruled differ
