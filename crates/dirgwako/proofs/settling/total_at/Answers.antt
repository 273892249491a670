use Rattle.std.proofs.Common.{◌≡◌, ℕ, ◌+◌, drop, sym, ap, ◌∙◌, arith}
use mathlib.Core.Option.{some}
use lib.ListN.{get_elem?}
use Rattle.ledger_core.specs.Ops.{sum_ops}
use Rattle.register_rule.specs.Sums.{word_after}
use Rattle.register_rule.proofs.Words.{there}
use Rattle.snapshot_update.specs.Workers.{member_of}
use Rattle.dirgwako.specs.Recorders.{worker_in}
use Rattle.dirgwako.specs.Settling.{published_in}
use Rattle.dirgwako.proofs.Published.{next_published, none_published}
use Rattle.dirgwako.proofs.settling.total_at.Goals as goal

pub loop-place-preserved : goal.loop-place-preserved
loop-place-preserved g c =
    let rs = c.args.recorders.now in let place : ℕ = c.loop-place.place in let r = c.index-recorders-place.result in
    let here : get_elem? rs place ≡ some r = there rs place r c.loop-place-test.true ∙ ap some (sym c.index-recorders-place.is) in
    let k : ℕ = c.args.word in
    let part : ℕ = word_after (sum_ops g.row.C g.row.H) (member_of (worker_in r)).work.made k in
    let next : published_in (drop place rs) k ≡ part + published_in (drop (place + 1) rs) k
    = next_published rs place (place + 1) k r (omega arith) here in
    let row : c.word_at-sum.result ≡ part = c.word_at-sum.ensures.word ∙ c.row.ensures k c.requires.word in
    let inv = c.loop-place.invariant.rest in let low = c.loop-place.invariant.low in let most = c.word_at-sum.ensures.bounded in
    let lt = c.loop-place-test.true in
    record {
      inside = omega (arith, lt);
      rest = omega (arith, next, row, inv);
      low = omega (arith, low, most);
    }

pub returns-clause-sum : goal.returns-clause-sum
returns-clause-sum g c =
    let rs = c.args.recorders.now in let none = none_published rs c.loop-place.place c.args.word c.loop-place-test.false in
    let inv = c.loop-place.invariant.rest in
    omega (arith, none, inv)
