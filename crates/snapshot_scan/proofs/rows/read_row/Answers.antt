use Rattle.std.proofs.Common.{refl, ◌≡◌, ◌*◌, ◌/◌, ℕ, List, [], ◌∷◌, take, length, arith, ap, ◌∙◌, subst}
use Rattle.ledger_core.specs.Ops.{width}
use Rattle.register_rule.specs.declared.view.Member.{Member}
use Rattle.register_rule.specs.Members.{led, scan_changed}
use Rattle.register_rule.specs.Seats.{members_of}
use Rattle.snapshot_scan.specs.Shape.{read_all}
use Rattle.snapshot_scan.specs.ChangedItems.{ChangedView}
use Rattle.snapshot_scan.specs.Reading.{IsReadTo}
use Rattle.snapshot_scan.proofs.Words.{take_all}
use Rattle.snapshot_scan.proofs.Moving.{moves_none}
use Rattle.snapshot_scan.proofs.rows.read_row.Goals as goal

-- nothing is read
none_read : (w i s : ℕ) (ms : List Member) (words : List ℕ) (listed : ChangedView)
    → IsReadTo w i s 0 ms ms words words listed listed
none_read w i s ms words listed = record {
  member = stays ms;
  low = λ j lt. absurd (omega (arith, lt));
  moves = moves_none w words listed;
}
  where
    stays : (ms : List Member) → ms ≡ led (scan_changed (read_all w i s 0 (take 0 words))) ms
    stays [] = refl
    stays (m ∷ ms) = refl

pub loop-turn-init : goal.loop-turn-init
loop-turn-init g c = record {
  table = refl;
  leads = c.requires.of_board.1;
  read = none_read (width g.row.C g.row.H g.row.G) c.args.place c.args.number (members_of (g.S.ScanSeat.bundle c.args.seat.now))
      c.args.words.now c.args.changed.now;
}

pub loop-turn-preserved : goal.loop-turn-preserved
loop-turn-preserved g c =
    let bundle = g.S.ScanSeat.bundle in let w : ℕ = width g.row.C g.row.H g.row.G in
    let ms = members_of (bundle c.args.seat.now) in let inv = c.loop-turn.invariant in let r = c.read_words.new in
    record {
      table = c.read_words.ensures.table ∙ inv.table;
      leads = c.read_words.ensures.leads;
      read = subst (λ (z : ℕ). IsReadTo w c.args.place c.args.number z ms (members_of (bundle r.seat)) c.args.words.now r.words
          c.args.changed.now r.changed) (omega arith)
          (c.read_words.ensures.read ms c.args.words.now c.args.changed.now inv.read);
    }

pub returns : goal.returns
returns g c =
    let bundle = g.S.ScanSeat.bundle in let w : ℕ = width g.row.C g.row.H g.row.G in let i = c.args.place in
    let s = c.args.number in
    let ms = members_of (bundle c.args.seat.now) in let inv = c.loop-turn.invariant in let r = c.read_words-2.new in
    let f = c.loop-turn-test.false in let end = c.loop-turn.auto.turn-end in
    let read : IsReadTo w i s (4 * (length c.args.words.now / 4)) ms (members_of (bundle c.loop-turn.seat)) c.args.words.now
    c.loop-turn.words c.args.changed.now c.loop-turn.changed =
    subst (λ (z : ℕ). IsReadTo w i s (4 * z) ms (members_of (bundle c.loop-turn.seat)) c.args.words.now c.loop-turn.words
    c.args.changed.now c.loop-turn.changed) (omega (arith, f, end)) inv.read in
    let a = c.read_words-2.auto.words in let b = c.loop-turn.auto.words in let long = c.requires.inside.1 in
    let all : IsReadTo w i s w ms (members_of (bundle r.seat)) c.args.words.now r.words c.args.changed.now r.changed =
    subst (λ (z : ℕ). IsReadTo w i s z ms (members_of (bundle r.seat)) c.args.words.now r.words c.args.changed.now r.changed)
    (omega (arith, long)) (c.read_words-2.ensures.read ms c.args.words.now c.args.changed.now read) in
    record {
      table = c.read_words-2.ensures.table ∙ inv.table;
      member = all.member ∙ ap (λ (l : List ℕ). led (scan_changed (read_all w i s 0 l)) ms)
          (take_all r.words w (omega (arith, a, b, long)));
      bounded = all.low;
      moves = all.moves;
    }
