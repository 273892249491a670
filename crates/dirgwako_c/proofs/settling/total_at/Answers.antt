use Rattle.std.proofs.Common.{◌≡◌, ℕ, ◌+◌, drop, ◌∙◌, arith}
use Rattle.ledger_core.specs.Ops.{sum_ops}
use Rattle.register_rule.specs.Sums.{word_after}
use Rattle.snapshot_update.specs.Workers.{member_of}
use Rattle.dirgwako_c.specs.Registries.{recorders_in}
use Rattle.dirgwako_c.specs.Settling.{seats_on, published_in}
use Rattle.dirgwako_c.proofs.Settled.{its, seats_many, next_published, none_published}
use Rattle.dirgwako_c.proofs.settling.total_at.Goals as goal

pub loop-place-preserved : goal.loop-place-preserved
loop-place-preserved g c =
    let rs = seats_on c.args.board (recorders_in c.args.spare.now) in let place : ℕ = c.loop-place.place in
    let r = c.seat.result.now in
    let k : ℕ = c.args.word in
    let part : ℕ = word_after (sum_ops g.row.C g.row.H) (member_of (its r)).work.made k in
    let next : published_in (drop place rs) k ≡ part + published_in (drop (place + 1) rs) k
    = next_published rs place (place + 1) k r (omega arith) c.seat.ensures in
    let row : c.word_at-sum.result ≡ part = c.word_at-sum.ensures.word ∙ c.row.ensures k c.requires.word in
    let inv = c.loop-place.invariant.rest in let low = c.loop-place.invariant.low in let most = c.word_at-sum.ensures.bounded in
    let lt = c.loop-place-test.true in let end = c.len-place-end.ensures in
    record {
      inside = omega (arith, lt, end);
      rest = omega (arith, next, row, inv);
      low = omega (arith, low, most);
    }

pub returns-clause-sum : goal.returns-clause-sum
returns-clause-sum g c =
    let rs = seats_on c.args.board (recorders_in c.args.spare.now) in let end = c.len-place-end.ensures.count in
    let many = seats_many c.args.board (recorders_in c.args.spare.now) c.requires.known in let over = c.loop-place-test.false in
    let none = none_published rs c.loop-place.place c.args.word (omega (arith, end, over, many)) in
    let inv = c.loop-place.invariant.rest in
    omega (arith, none, inv)
