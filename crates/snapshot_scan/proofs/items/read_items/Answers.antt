use Rattle.std.proofs.Common.{◌≡◌, ◌≢◌, ◌<◌, ◌+◌, ◌≤◌, ℕ, List, [], ◌∷◌, ◌++◌, take, length, get_or, set, arith, sym, ap, ◌∙◌}
use Rattle.std.proofs.Common.{subst, below_more, get_or-set_other, get_or-set_same}
use Rattle.ledger_core.specs.Ops.{width}
use Rattle.register_rule.specs.Members.{led, scan_changed}
use Rattle.register_rule.specs.ScanSteps.{after_read}
use Rattle.register_rule.specs.Seats.{HasMember, members_of}
use Rattle.snapshot_scan.specs.Shape.{read_all}
use Rattle.snapshot_scan.proofs.Words.{take_next, take_all, length_take, read_snoc, led_led, led_some}
use Rattle.snapshot_scan.proofs.items.read_items.Goals as goal

pub loop-k-preserved : goal.loop-k-preserved
loop-k-preserved g c =
    let bundle = g.S.ScanSeat.bundle in
    let w = width g.row.C g.row.H g.row.G in
    let k = c.loop-k.k in let ws = c.loop-k.words in let x = c.read_word.result in
    let ms0 = members_of (bundle c.args.seat.now) in
    let inv = c.loop-k.invariant in
    let lt : k < length ws = let a = c.loop-k.auto.words in let t = c.loop-k-test.true in omega arith in
    let more : take (k + 1) (set ws k x) ≡ take k ws ++ x ∷ [] = take_next ws k x lt in
    let deep : length (take k ws) ≡ k = length_take ws k (omega arith) in
    let member : members_of (bundle c.read_word.new.seat) ≡ led
    (scan_changed (read_all w c.args.place c.args.number c.args.from (take (k + 1) (set ws k x)))) ms0 =
    c.read_word.ensures.learns.member
    ∙ (ap (led (scan_changed (after_read w c.args.place c.args.number (c.args.from + k) x))) inv.member
    ∙ led_led (after_read w c.args.place c.args.number (c.args.from + k) x)
    (read_all w c.args.place c.args.number c.args.from (take k ws))
    (read_all w c.args.place c.args.number c.args.from (take (k + 1) (set ws k x))) ms0
    (λ d. sym (ap (λ (l : List ℕ). read_all w c.args.place c.args.number c.args.from l d) more
    ∙ (read_snoc w c.args.place c.args.number c.args.from (take k ws) x d
    ∙ ap (λ (z : ℕ). after_read w c.args.place c.args.number (c.args.from + z) x
    (read_all w c.args.place c.args.number c.args.from (take k ws) d)) deep)))) in
    record {
      table = c.read_word.ensures.learns.table ∙ inv.table;
      some = subst HasMember (sym member) (led_some _ ms0 c.requires.of_board.1);
      member = member;
      bounded = below_more (λ (j : ℕ). c.args.from + j < w → get_or (set ws k x) j 0 ≤ 281474976710655) k
          (λ j h in_row. let ne : j ≢ k = omega (arith, h) in
          subst (λ (z : ℕ). z ≤ 281474976710655) (sym (get_or-set_other ws k j x 0 ne)) (inv.bounded j h in_row))
          (λ in_row. subst (λ (z : ℕ). z ≤ 281474976710655) (sym (get_or-set_same ws k x 0 lt))
          (c.read_word.ensures.bounded in_row));
    }

pub returns-clause-member : goal.returns-clause-member
returns-clause-member g c = let a = c.loop-k.auto.words in let f = c.loop-k-test.false in
    c.loop-k.invariant.member
    ∙ ap (λ (l : List ℕ). led
    (scan_changed (read_all (width g.row.C g.row.H g.row.G) c.args.place c.args.number c.args.from l))
    (members_of (g.S.ScanSeat.bundle c.args.seat.now))) (take_all c.loop-k.words c.loop-k.k (omega arith))
