use Rattle.std.proofs.Common.{rules, ◌≡◌, ℕ, length, get_or, sym, ap, ◌∙◌, subst, arith}
use mathlib.Core.Option.{some}
use lib.ListN.{get_elem?}
use Rattle.snapshot_scan.specs.Readers.{members_with, scan_by}
use Rattle.snapshot_update.specs.Workers.{IsWorkerOf}
use Rattle.register_rule.proofs.Words.{there, from_all}
use Rattle.chain_law.proofs.Places.{set_else}
use Rattle.snapshot_scan.proofs.Standing.{seen_met}
use Rattle.chain_law.proofs.LentMore.{long_more, lent_more, seen_then}
use Rattle.chain_law.proofs.gathering.lend_all.Goals as goal

pub lend_to-requires : goal.lend_to-requires
lend_to-requires g c =
    let k : ℕ = c.loop-k.k in let ws = c.loop-k.workers in let vs = c.args.workers.now in let w = c.index-workers-k.result in
    let lt = c.loop-k-test.true in let long = c.loop-k.auto.workers in
    let now : get_elem? ws k ≡ some w = there ws k w (omega (arith, lt, long)) ∙ ap some (sym c.index-workers-k.is) in
    let here : get_elem? vs k ≡ some w = sym (c.loop-k.invariant.others k (omega arith)) ∙ now in (
      search rules,
      (
        search rules,
        (
          search rules,
          (
            subst (IsWorkerOf c.args.board.now) c.index-workers-k.is
                (from_all (IsWorkerOf c.args.board.now) vs c.requires.of_board.1 k w here),
            c.loop-k.invariant.table ∙ c.requires.of_board.0,
          ),
        ),
      ),
    )

pub loop-k-preserved : goal.loop-k-preserved
loop-k-preserved g c =
    let k : ℕ = c.loop-k.k in let ws = c.loop-k.workers in let vs = c.args.workers.now in let inv = c.loop-k.invariant in
    let lt = c.loop-k-test.true in let long = c.loop-k.auto.workers in let l = c.lend_to in
    let x = get_or ws k c.index-workers-k.result in
    let now : get_elem? ws k ≡ some x = there ws k c.index-workers-k.result (omega (arith, lt, long)) in
    let here : get_elem? vs k ≡ some x = sym (inv.others k (omega arith)) ∙ now in
    let place = length (members_with c.args.reader.now) in record {
      table = l.ensures.of_board ∙ sym c.requires.of_board.0;
      index = l.ensures.index.1 ∙ inv.index;
      long = long_more vs ws k place x l.new.self c.loop-k.reader l.new.reader here inv.long l.ensures.met l.ensures.index.0
          l.ensures.lent;
      scan = seen_then (scan_by c.args.reader.now) (scan_by c.loop-k.reader) (scan_by l.new.reader) inv.scan
          (seen_met (members_with c.loop-k.reader) _ (members_with l.new.reader) c.loop-k.reader.leads l.ensures.met);
      lent = lent_more vs ws k place x l.new.self c.loop-k.reader l.new.reader here inv.long l.ensures.met l.ensures.index.0
          l.ensures.lent inv.lent;
      others = λ p le. set_else ws k p l.new.self (λ e. omega (arith, le, e)) ∙ inv.others p (omega (arith, le));
    }

pub returns-clause-lent : goal.returns-clause-lent
returns-clause-lent g c = λ p v w below its now. let f = c.loop-k-test.false in
    c.loop-k.invariant.lent p v w (omega (arith, below, f)) its now
