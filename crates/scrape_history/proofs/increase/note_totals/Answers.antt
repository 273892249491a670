use Rattle.std.proofs.Common.{◌≡◌, ◌<◌, ◌+◌, ◌-◌, ◌%◌, ◌^◌, arith, ap, sym, ◌∙◌, length, get_or, List, ℕ}
use Rattle.std.proofs.lemmas.List.{length_push}
use Rattle.ledger_core.specs.Ops.{width}
use Rattle.scrape_history.specs.declared.increase.Increase.{Increase}
use Rattle.std.specs.VecDeque.{deque_len, deque_capacity}
use Rattle.std.specs.declared.collections.VecDeque.{VecDeque}
use Rattle.std.specs.declared.alloc.Global.{Global}
use Rattle.scrape_history.proofs.Increasing.{adds_none, totals_same, totals_more}
use Rattle.scrape_history.proofs.increase.note_totals.Goals as goal
use Rattle.scrape_history.proofs.increase.note_totals.Goals.{then-is-word, else-is-word}

pub push_back_reserved-requires : goal.push_back_reserved-requires
push_back_reserved-requires g c =
    let long : deque_len c.loop-word.increases ≡ length c.loop-word.increases.items = c.loop-word.increases.ok.0 in
    let few = c.loop-word.invariant.few in let room = c.loop-word.invariant.room in omega (arith, long, few, room)

pub loop-word-init : goal.loop-word-init
loop-word-init g c = record {
  added = adds_none _ _ _ _ _ (λ i. record c.args.before.now { vector = c.args.after.now.vector });
  few = omega arith;
  room = (λ i. deque_capacity c.args.increases.now);
}

pub loop-word-preserved : goal.loop-word-preserved
loop-word-preserved g c =
    let was : c.totals-was.result.now ≡ c.args.before.now.totals = c.totals-was.ensures.words in
    let is : c.totals-is.result.now ≡ c.args.after.now.totals = c.totals-is.ensures.words in
    let n = c.totals-was.ensures.all in let m = c.totals-is.ensures.all in
    let long = ap length was in let wide = ap length is in
    let k = c.loop-word.word in
    let inv = c.loop-word.invariant in
    let few = inv.few in
    let at_was : get_or c.totals-was.result.now k 0 ≡ get_or c.args.before.now.totals k 0 =
    ap (λ (l : List ℕ). get_or l k 0) was in
    let at_is : get_or c.totals-is.result.now k 0 ≡ get_or c.args.after.now.totals k 0 = ap (λ (l : List ℕ). get_or l k 0) is in
    let lt : k < length c.args.after.now.totals = omega (arith, m, wide) in
    let lt' : k < length c.args.before.now.totals = omega (arith, n, long) in
    elim c.if-is-word.branch [
      | then-is-word w ↦
          let items = ap (λ (d : VecDeque Increase Global). d.items) w.increases-is in
          let capacity = ap (λ (d : VecDeque Increase Global). deque_capacity d) w.increases-is in
          let pushed = items ∙ w.push_back_reserved.ensures.items in
          let fits_was = c.type_inv.was k in record {
            added =
                totals_more g.row.N (width g.row.C g.row.H g.row.G) c.args.before.now c.args.after.now _ _ k lt lt' inv.added _ _
                (omega (arith, n))
                (let low = c.totals-is.ensures.low k (omega (arith, n)) in let differ = w.if-is-word.true in
                omega (arith, low, fits_was, differ)) pushed
                (λ i. (at_is i + (2 ^ 64 - at_was i)) % 2 ^ 64) (let low = c.totals-is.ensures.low k (omega (arith, n)) in
                omega (arith, low, at_is)) (omega (arith, fits_was, at_was));
            few = let more = ap length pushed ∙ length_push _ _ in omega (arith, few, more);
            room = capacity ∙ w.push_back_reserved.ensures.capacity ∙ inv.room;
          }
      | else-is-word w ↦
          let items = ap (λ (d : VecDeque Increase Global). d.items) w.increases-is in
          let capacity = ap (λ (d : VecDeque Increase Global). deque_capacity d) w.increases-is in record {
            added = rw items (totals_same g.row.N (width g.row.C g.row.H g.row.G) c.args.before.now c.args.after.now _ _ k lt lt'
                inv.added (sym at_is ∙ w.if-is-word.false ∙ at_was));
            few = rw items (omega (arith, few));
            room = capacity ∙ inv.room;
          }
    ]
