use Rattle.std.proofs.Common.{◌≡◌, ℕ, List, get_or, sym, ◌∙◌, subst, arith}
use Rattle.std.specs.List.{Contains}
use Rattle.std.proofs.lemmas.List.{get_or_default}
use Rattle.std.proofs.lemmas.List.Elements.{Contains-get_or}
use Rattle.snapshot_update.specs.BufferImages.{target_of}
use Rattle.snapshot_update.proofs.Filling.{not_filled}
use Rattle.snapshot_update.proofs.fills.fill_changes.Goals as goal

pub loop-item-init : goal.loop-item-init
loop-item-init g c = let items = c.as_slice-items.result.now in record {
  fills = not_filled c.args.board.now c.args.hidden.now c.args.seat.now c.requires.stores;
  deep = c.requires.lengths;
  inside = λ k lt. c.requires.inside (get_or items k 0) (subst (λ (l : List ℕ). Contains l (get_or items k 0))
      c.as_slice-items.ensures.listed (Contains-get_or items k 0 lt));
  filled = λ k lt. absurd (omega (arith, lt));
  kept = λ j same. same;
}

pub returns-clause-filled : goal.returns-clause-filled
returns-clause-filled g c = λ j h.
    let items = c.as_slice-items.result.now in
    let at = subst (λ (l : List ℕ). Contains l j) (sym c.as_slice-items.ensures.listed) h in
    subst (λ (i : ℕ). get_or c.loop-item.hidden i 0 ≡ get_or (target_of c.args.version.now) i 0)
    (get_or_default items at.0 0 j at.1 ∙ at.2)
    (c.loop-item.invariant.filled at.0 (let lt = at.1 in omega (arith, lt)))
