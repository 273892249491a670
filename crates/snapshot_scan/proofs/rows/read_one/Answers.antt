use Rattle.std.proofs.Common.{◌≡◌, ◌≢◌, ◌<◌, ◌+◌, ◌≤◌, ℕ, List, [], ◌∷◌, ◌++◌, take, length, get_or, set, arith, sym, ap, ◌∙◌}
use Rattle.std.proofs.Common.{subst, below_more, get_or-set_other, get_or-set_same}
use Rattle.ledger_core.specs.Ops.{width}
use Rattle.register_rule.specs.Members.{led, scan_changed}
use Rattle.register_rule.specs.ScanSteps.{after_read}
use Rattle.register_rule.specs.Seats.{HasMember, members_of}
use Rattle.snapshot_scan.specs.Shape.{read_all}
use Rattle.snapshot_scan.specs.ChangedItems.{ListsChanges}
use Rattle.snapshot_scan.proofs.Words.{take_next, length_take, read_snoc, led_led, led_some}
use Rattle.snapshot_scan.proofs.Moving.{moves_then}
use Rattle.snapshot_scan.proofs.rows.read_one.Goals as goal

pub returns-clause-leads : goal.returns-clause-leads
returns-clause-leads g c = subst HasMember (sym c.read_word-word.ensures.learns.member)
    (led_some _ (members_of (g.S.ScanSeat.bundle c.args.seat.now)) c.requires.of_board.1)

pub returns-clause-read : goal.returns-clause-read
returns-clause-read g c = λ ms row listed is.
    let w : ℕ = width g.row.C g.row.H g.row.G in let i = c.args.place in let s = c.args.number in
    let k = c.args.k in let ws = c.args.words.now in let x = c.read_word-word.result in let new = c.put_word.new.words in
    let lt : k < length ws = c.requires.inside.1 in let long : length ws ≡ w = c.requires.inside.2 in
    let written : new ≡ set ws k x = c.put_word.ensures.words in
    let more : take (k + 1) new ≡ take k ws ++ x ∷ [] = ap (take (k + 1)) written ∙ take_next ws k x lt in
    let long' = length_take ws k (omega (arith, lt)) in let deep : 0 + length (take k ws) ≡ k = omega (arith, long') in
    record {
      member = c.read_word-word.ensures.learns.member ∙ (ap (led (scan_changed (after_read w i s k x))) is.member
          ∙ led_led (after_read w i s k x) (read_all w i s 0 (take k ws)) (read_all w i s 0 (take (k + 1) new)) ms
          (λ d. sym (ap (λ (l : List ℕ). read_all w i s 0 l d) more
          ∙ (read_snoc w i s 0 (take k ws) x d ∙ ap (λ (z : ℕ). after_read w i s z x (read_all w i s 0 (take k ws) d))
          deep))));
      low = subst (λ (l : List ℕ). (j : ℕ) → j < k + 1 → get_or l j 0 ≤ 281474976710655) (sym written)
          (below_more (λ (j : ℕ). get_or (set ws k x) j 0 ≤ 281474976710655) k
          (λ j h. let ne : j ≢ k = omega (arith, h) in
          subst (λ (z : ℕ). z ≤ 281474976710655) (sym (get_or-set_other ws k j x 0 ne)) (is.low j h))
          (subst (λ (z : ℕ). z ≤ 281474976710655) (sym (get_or-set_same ws k x 0 lt))
          (c.read_word-word.ensures.bounded (omega (arith, lt, long)))));
      moves = moves_then w row ws new listed c.args.changed.now c.put_word.new.changed is.moves
          (subst (λ (n : ℕ). ListsChanges n ws new c.args.changed.now c.put_word.new.changed) long c.put_word.ensures.moves);
    }
