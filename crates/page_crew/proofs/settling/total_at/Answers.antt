use Rattle.std.proofs.Common.{◌≡◌, ◌≢◌, ℕ, ◌+◌, drop, sym, ap, ◌∙◌, arith}
use mathlib.Core.Option.{some}
use lib.ListN.{get_elem?}
use Rattle.std.proofs.lemmas.List.Elements.{All-contains}
use Rattle.ledger_core.specs.Ops.{sum_ops}
use Rattle.register_rule.specs.Sums.{word_after}
use Rattle.register_rule.proofs.Words.{there}
use Rattle.snapshot_update.specs.Workers.{member_of}
use Rattle.page_crew.specs.Held.{recorders_of}
use Rattle.page_crew.specs.Settling.{published_on}
use Rattle.page_crew.specs.Shared.{id_in, worker_in}
use Rattle.page_crew.specs.declared.shared_recorder.SharedRecorder.{SharedRecorder}
use Rattle.page_crew.proofs.Published.{next_published, none_published, with_one, are_few}
use Rattle.page_crew.proofs.settling.total_at.Goals as goal

pub unreachable-requires : goal.unreachable-requires
unreachable-requires g c =
    let rs = c.args.recorders.now in let place : ℕ = c.loop-place.place in let r = c.index-recorders-place.result in
    let here : get_elem? rs place ≡ some r = there rs place r c.loop-place-test.true ∙ ap some (sym c.index-recorders-place.is) in
    let (s, counts, is) = with_one c.args.board rs c.requires.all place r here in
    All-contains (λ (x : SharedRecorder g.row.N g.row.C g.row.H g.row.G). id_in x ≢ c.args.board) (recorders_of r) s
    c.in_default.ensures
    counts.0 counts.1

pub overflow_add-sum : goal.overflow_add-sum
overflow_add-sum g c =
    let few = are_few c.args.board c.args.recorders.now c.requires.all in
    let low = c.loop-place.invariant.low in let most = c.word_at-sum.ensures.bounded in let lt = c.loop-place-test.true in
    omega (arith, few, low, most, lt)

pub loop-place-preserved : goal.loop-place-preserved
loop-place-preserved g c =
    let rs = c.args.recorders.now in let place : ℕ = c.loop-place.place in let r = c.index-recorders-place.result in
    let s = c.in-Some.on.now in
    let here : get_elem? rs place ≡ some r = there rs place r c.loop-place-test.true ∙ ap some (sym c.index-recorders-place.is) in
    let k : ℕ = c.args.word in
    let part : ℕ = word_after (sum_ops g.row.C g.row.H) (member_of (worker_in s)).work.made k in
    let next : published_on c.args.board (drop place rs) k ≡ part + published_on c.args.board (drop (place + 1) rs) k
    = next_published c.args.board rs place (place + 1) k r s (omega arith) here c.in-Some.ensures in
    let row : c.word_at-sum.result ≡ part = c.word_at-sum.ensures.word ∙ c.row.ensures k c.requires.word in
    let inv = c.loop-place.invariant.rest in let low = c.loop-place.invariant.low in let most = c.word_at-sum.ensures.bounded in
    let lt = c.loop-place-test.true in
    record {
      inside = omega (arith, lt);
      rest = omega (arith, next, row, inv);
      low = omega (arith, low, most);
    }

pub returns-clause-sum : goal.returns-clause-sum
returns-clause-sum g c =
    let rs = c.args.recorders.now in let none = none_published c.args.board rs c.loop-place.place c.args.word
    c.loop-place-test.false in
    let inv = c.loop-place.invariant.rest in
    omega (arith, none, inv)

pub returns-clause-low : goal.returns-clause-low
returns-clause-low g c =
    let few = are_few c.args.board c.args.recorders.now c.requires.all in
    let low = c.loop-place.invariant.low in let inside = c.loop-place.invariant.inside in
    omega (arith, few, low, inside)
