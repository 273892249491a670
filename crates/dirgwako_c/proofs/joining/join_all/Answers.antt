use Rattle.std.proofs.Common.{map, arith}
use Rattle.std.proofs.lemmas.List.{length-map}
use Rattle.dirgwako_c.proofs.Meeting.{all_known, box_met, box_more, box_stranger}
use Rattle.dirgwako_c.proofs.joining.join_all.Goals as goal

pub loop-place-preserved : goal.loop-place-preserved
loop-place-preserved g c =
    let count = c.join.ensures.count in let knows = c.if-join-board.false in let lt = c.loop-place-test.true in
    let same = c.loop-place.auto.recorders in
    box_more (λ b. b.value) c.args.board c.loop-place.place (map (λ b. b.value) c.args.recorders.now) c.loop-place.recorders
    c.loop-place.invariant c.index-recorders-place.result _ c.deref_mut.result.now (omega (arith, lt, same))
    c.index-recorders-place.is
    c.deref_mut.ensures.value ((c.join.ensures.first, c.join.ensures.feed), c.join.ensures.joined) (omega (arith, count, knows))

pub returns-then-join-board-clause-met : goal.returns-then-join-board-clause-met
returns-then-join-board-clause-met g c =
    let lt = c.loop-place-test.true in let same = c.loop-place.auto.recorders in
    box_met (λ b. b.value) c.args.board c.loop-place.place (map (λ b. b.value) c.args.recorders.now) c.loop-place.recorders
    c.loop-place.invariant c.index-recorders-place.result _ c.deref_mut.result.now (omega (arith, lt, same))
    c.index-recorders-place.is
    c.deref_mut.ensures.value ((c.join.ensures.first, c.join.ensures.feed), c.join.ensures.joined)

pub returns-then-join-board-clause-stranger : goal.returns-then-join-board-clause-stranger
returns-then-join-board-clause-stranger g c = λ _.
    let count = c.join.ensures.count in let few = c.if-join-board.true in let lt = c.loop-place-test.true in
    let same = c.loop-place.auto.recorders in
    box_stranger (λ b. b.value) c.args.board c.loop-place.place (map (λ b. b.value) c.args.recorders.now) c.loop-place.recorders
    c.loop-place.invariant c.index-recorders-place.result _ c.deref_mut.result.now (omega (arith, lt, same))
    c.index-recorders-place.is
    c.deref_mut.ensures.value ((c.join.ensures.first, c.join.ensures.feed), c.join.ensures.joined) (omega (arith, count, few))

pub returns-clause-all : goal.returns-clause-all
returns-clause-all g c = λ _.
    let end = c.loop-place-test.false in let same = c.loop-place.auto.recorders in
    let many = length-map c.loop-place.recorders (λ b. b.value) in
    all_known c.args.board c.loop-place.place (map (λ b. b.value) c.args.recorders.now) (map (λ b. b.value)
    c.loop-place.recorders)
    c.loop-place.invariant (omega (arith, end, same, many))
