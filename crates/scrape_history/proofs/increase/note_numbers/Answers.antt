use Rattle.std.proofs.Common.{◌≡◌, ◌<◌, ◌+◌, ◌-◌, ◌%◌, ◌^◌, arith, ap, sym, ◌∙◌, length, get_or, List, ℕ}
use Rattle.std.proofs.lemmas.List.{length_push}
use Rattle.ledger_core.specs.Ops.{width}
use Rattle.scrape_history.specs.declared.increase.Increase.{Increase}
use Rattle.std.specs.VecDeque.{deque_len, deque_capacity}
use Rattle.std.specs.declared.collections.VecDeque.{VecDeque}
use Rattle.std.specs.declared.alloc.Global.{Global}
use Rattle.scrape_history.proofs.Increasing.{adds_none, numbers_same, numbers_more}
use Rattle.scrape_history.proofs.increase.note_numbers.Goals as goal
use Rattle.scrape_history.proofs.increase.note_numbers.Goals.{then-is-worker, else-is-worker}

pub push_back_reserved-requires : goal.push_back_reserved-requires
push_back_reserved-requires g c =
    let long : deque_len c.loop-worker.increases ≡ length c.loop-worker.increases.items = c.loop-worker.increases.ok.0 in
    let few = c.loop-worker.invariant.few in let room = c.loop-worker.invariant.room in omega (arith, long, few, room)

pub loop-worker-init : goal.loop-worker-init
loop-worker-init g c = record {
  added = adds_none _ _ _ _ _ (λ i. c.args.before.now);
  few = omega arith;
  room = (λ i. deque_capacity c.args.increases.now);
}

pub loop-worker-preserved : goal.loop-worker-preserved
loop-worker-preserved g c =
    let was : c.vector-was.result.now ≡ c.args.before.now.vector = c.vector-was.ensures.numbers in
    let is : c.vector-is.result.now ≡ c.args.after.now.vector = c.vector-is.ensures.numbers in
    let n = c.vector-was.ensures.all in let m = c.vector-is.ensures.all in
    let long = ap length was in let wide = ap length is in
    let k = c.loop-worker.worker in
    let inv = c.loop-worker.invariant in
    let few = inv.few in
    let at_was : get_or c.vector-was.result.now k 0 ≡ get_or c.args.before.now.vector k 0 =
    ap (λ (l : List ℕ). get_or l k 0) was in
    let at_is : get_or c.vector-is.result.now k 0 ≡ get_or c.args.after.now.vector k 0 = ap (λ (l : List ℕ). get_or l k 0) is in
    let lt : k < length c.args.after.now.vector = omega (arith, m, wide) in
    let lt' : k < length c.args.before.now.vector = omega (arith, n, long) in
    elim c.if-is-worker.branch [
      | then-is-worker w ↦
          let items = ap (λ (d : VecDeque Increase Global). d.items) w.increases-is in
          let capacity = ap (λ (d : VecDeque Increase Global). deque_capacity d) w.increases-is in
          let pushed = items ∙ w.push_back_reserved.ensures.items in
          let fits_was = c.type_inv.was k in let fits_is = c.type_inv.is k in record {
            added =
                numbers_more g.row.N (width g.row.C g.row.H g.row.G) c.args.before.now c.args.after.now _ _ k lt lt' inv.added _ _
                c.loop-worker-test.true
                (let differ = w.if-is-worker.true in omega (arith, fits_is, fits_was, differ)) pushed
                (λ i. (at_is i + (2 ^ 64 - at_was i)) % 2 ^ 64) (omega (arith, fits_is, at_is)) (omega (arith, fits_was, at_was));
            few = let more = ap length pushed ∙ length_push _ _ in omega (arith, few, more);
            room = capacity ∙ w.push_back_reserved.ensures.capacity ∙ inv.room;
          }
      | else-is-worker w ↦
          let items = ap (λ (d : VecDeque Increase Global). d.items) w.increases-is in
          let capacity = ap (λ (d : VecDeque Increase Global). deque_capacity d) w.increases-is in record {
            added = rw items (numbers_same g.row.N (width g.row.C g.row.H g.row.G) c.args.before.now c.args.after.now _ _ k lt lt'
                inv.added (sym at_is ∙ w.if-is-worker.false ∙ at_was));
            few = rw items (omega (arith, few));
            room = capacity ∙ inv.room;
          }
    ]
