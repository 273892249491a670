use Rattle.std.proofs.Common.{rules, ◌≡◌, ⊎_elim, ℕ, get_or, sym, refl, ap, ◌∙◌, subst, arith}
use mathlib.Core.Option.{some}
use lib.ListN.{get_elem?}
use Rattle.snapshot_scan.specs.Lent.{IsWorkerAmong}
use Rattle.snapshot_scan.specs.Readers.{members_with}
use Rattle.snapshot_scan.specs.Shape.{scan_of}
use Rattle.snapshot_scan.proofs.Standing.{sees_still}
use Rattle.snapshot_update.specs.Workers.{IsWorkerOf, index_of, member_of}
use Rattle.snapshot_update.proofs.Lending.{is_picked}
use Rattle.register_rule.proofs.Words.{there, at_below}
use Rattle.chain_law.proofs.Places.{set_else, from_set, all_from}
use Rattle.chain_law.proofs.TakenBack.{lent_still, back_more, left_more}
use Rattle.chain_law.proofs.gathering.take_all.Goals as goal

pub loop-k-init : goal.loop-k-init
loop-k-init g c = record {
  table = refl;
  index = refl;
  scan = refl;
  free = λ p w none. absurd (omega (arith, none));
  back = λ p v w none. absurd (omega (arith, none));
  left = λ i m s. (s, λ p w none. absurd (omega (arith, none)));
  lent = λ p w _ at. let t = c.requires.lent p w (omega arith) at in (t.0, t.1, t.1.there);
  others = λ p _. refl;
}

pub take_back-requires : goal.take_back-requires
take_back-requires g c =
    let k : ℕ = c.loop-k.k in let ws = c.loop-k.workers in let inv = c.loop-k.invariant in
    let lt = c.loop-k-test.true in let long = c.loop-k.auto.workers in
    let x = get_or ws k c.index-workers-k.result in
    let now : get_elem? ws k ≡ some x = there ws k c.index-workers-k.result (omega (arith, lt, long)) in
    let t = inv.lent k x (omega arith) now in
    (search rules, (search rules, (search rules, (inv.table ∙ c.requires.of_board, (t.0, t.1)))))

pub loop-k-preserved : goal.loop-k-preserved
loop-k-preserved g c =
    let k : ℕ = c.loop-k.k in let ws = c.loop-k.workers in let vs = c.args.workers.now in let inv = c.loop-k.invariant in
    let lt = c.loop-k-test.true in let long = c.loop-k.auto.workers in let b = c.take_back in let r = c.loop-k.reader in
    let x = get_or ws k c.index-workers-k.result in
    let now : get_elem? ws k ≡ some x = there ws k c.index-workers-k.result (omega (arith, lt, long)) in
    let here : get_elem? vs k ≡ some x = sym (inv.others k (omega arith)) ∙ now in
    let t = inv.lent k x (omega arith) now in
    let is : member_of b.new.self ≡ t.0 = is_picked (index_of x) t.0 (member_of b.new.self) (members_with r) t.1.there
    b.ensures.member in
    record {
      table = b.ensures.of_board.1 ∙ sym c.requires.of_board;
      index = b.ensures.index.1 ∙ inv.index;
      scan = (ap scan_of b.ensures.others ∙ sees_still (index_of x) r.index (members_with r) r.leads r.is) ∙ inv.scan;
      free = λ p w below at. ⊎_elim (λ h. subst (IsWorkerOf c.args.board.now) h.1 b.ensures.of_board.0)
          (λ h. inv.free p w (let n = h.0 in omega (arith, below, n)) h.1) (from_set ws k p b.new.self w at);
      back = back_more vs ws k x b.new.self c.args.reader.now r b.new.reader here c.requires.distinct b.ensures.index.0 inv.others
          b.ensures.others
          (subst (λ (m : _). IsWorkerAmong (index_of x) m (members_with c.args.reader.now)) (sym is) t.2) inv.back;
      left = left_more vs k x c.args.reader.now r b.new.reader here b.ensures.others inv.left;
      lent = lent_still vs ws k x b.new.self c.args.reader.now r b.new.reader here c.requires.distinct b.ensures.index.0
          inv.others b.ensures.others inv.lent;
      others = λ p le. set_else ws k p b.new.self (λ e. omega (arith, le, e)) ∙ inv.others p (omega (arith, le));
    }

pub returns-clause-of_board : goal.returns-clause-of_board
returns-clause-of_board g c =
    let f = c.loop-k-test.false in let long = c.loop-k.auto.workers in (
      c.loop-k.invariant.table ∙ c.requires.of_board,
      all_from (IsWorkerOf c.args.board.now) c.loop-k.workers
          (λ p w at. c.loop-k.invariant.free p w (let h = at_below c.loop-k.workers p w at in omega (arith, h, f, long)) at),
    )

pub returns-clause-left : goal.returns-clause-left
returns-clause-left g c = λ i m s. let t = c.loop-k.invariant.left i m s in let f = c.loop-k-test.false in
    let long = c.loop-k.auto.workers in (t.0, λ p w below. t.1 p w (omega (arith, below, f, long)))

pub returns-clause-back : goal.returns-clause-back
returns-clause-back g c = λ p v w below its now. let f = c.loop-k-test.false in
    c.loop-k.invariant.back p v w (omega (arith, below, f)) its now
