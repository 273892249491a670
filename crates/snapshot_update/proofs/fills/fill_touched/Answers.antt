use Rattle.std.proofs.Common.{◌≡◌, ◌+◌, ℕ, get_or, ◌∙◌, subst, arith, below_more}
use Rattle.std.proofs.lemmas.List.{get_or_default}
use Rattle.std.proofs.lemmas.List.Elements.{Contains-get_or}
use Rattle.ledger_core.specs.Ops.{width}
use Rattle.snapshot_update.specs.BufferImages.{target_of}
use Rattle.snapshot_update.proofs.Filling.{not_filled, filled_on}
use Rattle.snapshot_update.proofs.fills.fill_touched.Goals as goal

pub loop-word-init : goal.loop-word-init
loop-word-init g c = let words = c.args.words.now in record {
  fills = not_filled c.args.board.now c.args.hidden.now c.args.seat.now c.requires.stores;
  deep = c.requires.lengths.0;
  inside = λ k lt. c.requires.inside (get_or words k 0) (Contains-get_or words k 0 lt);
  rows = λ k lt. absurd (omega (arith, lt));
  totals = λ k lt. absurd (omega (arith, lt));
  kept = λ j same. same;
}

pub loop-word-preserved : goal.loop-word-preserved
loop-word-preserved g c =
    let is = c.loop-word.invariant in let pair = c.fill_pair.ensures in let i = c.loop-word.word-index in
    let w : ℕ = width g.row.C g.row.H g.row.G in let target = target_of c.args.version.now in
    let words = c.args.words.now in let new = c.fill_pair.new.hidden in
    record {
      fills = filled_on c.args.board.now c.loop-word.hidden new c.args.seat.now c.loop-word.seat
          c.fill_pair.new.seat is.fills pair.fills;
      deep = c.fill_pair.auto.hidden ∙ is.deep;
      inside = is.inside;
      rows = below_more (λ (k : ℕ). get_or new (get_or words k 0) 0 ≡ get_or target (get_or words k 0) 0) i
          (λ k lt. pair.kept _ (is.rows k lt)) pair.row;
      totals = below_more (λ (k : ℕ). get_or new (w + 1 + g.row.N + get_or words k 0) 0 ≡ get_or target
          (w + 1 + g.row.N + get_or words k 0) 0) i
          (λ k lt. pair.kept _ (is.totals k lt)) pair.total;
      kept = λ j same. pair.kept j (is.kept j same);
    }

pub returns-clause-rows : goal.returns-clause-rows
returns-clause-rows g c = λ j h.
    let words = c.args.words.now in
    let at = h in
    subst (λ (i : ℕ). get_or c.loop-word.hidden i 0 ≡ get_or (target_of c.args.version.now) i 0)
    (get_or_default words at.0 0 j at.1 ∙ at.2)
    (c.loop-word.invariant.rows at.0 (let lt = at.1 in omega (arith, lt)))

pub returns-clause-totals : goal.returns-clause-totals
returns-clause-totals g c = λ j h.
    let w : ℕ = width g.row.C g.row.H g.row.G in
    let words = c.args.words.now in
    let at = h in
    subst (λ (i : ℕ). get_or c.loop-word.hidden (w + 1 + g.row.N + i) 0 ≡ get_or (target_of c.args.version.now)
    (w + 1 + g.row.N + i) 0)
    (get_or_default words at.0 0 j at.1 ∙ at.2)
    (c.loop-word.invariant.totals at.0 (let lt = at.1 in omega (arith, lt)))
