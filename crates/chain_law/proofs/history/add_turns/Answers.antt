use Rattle.std.proofs.Common.{◌≡◌, ℕ, ◌-◌, ◌≤◌, List, [], ◌∷◌, ◌++◌, slice_index_or, refl, ap, ◌∙◌, arith, append_assoc}
use mathlib.Core.Option.{some}
use lib.ListN.{get_elem?}
use Rattle.register_rule.proofs.Words.{there, read_at}
use Rattle.chain_law.specs.declared.turns.Turn.{Turn}
use Rattle.chain_law.proofs.Pieces.{goes_on, one_more}
use Rattle.chain_law.proofs.history.add_turns.Goals as goal
use Rattle.chain_law.proofs.history.add_turns.Goals.{then-by-gt0+in_ok-push, else-by-gt0}

pub overflow_sub-by : goal.overflow_sub-by
overflow_sub-by c = let lt = c.loop-worker-test.true in let all = c.requires.all in
    c.requires.rises c.loop-worker.worker _ _ (there c.args.from.now c.loop-worker.worker 0 lt)
    (there c.args.to.now c.loop-worker.worker 0 (omega (arith, lt, all)))

pub loop-worker-preserved : goal.loop-worker-preserved
loop-worker-preserved c =
    let from = c.args.from.now in let to = c.args.to.now in let k : ℕ = c.loop-worker.worker in
    let old = c.args.turns.now.items in let inv = c.loop-worker.invariant in
    let lt = c.loop-worker-test.true in let all = c.requires.all in
    let low : slice_index_or from k 0 ≤ slice_index_or to k 0 = c.requires.rises k _ _ (there from k 0 lt)
    (there to k 0 (omega (arith, lt, all))) in
    let read : (x y : ℕ) → get_elem? from k ≡ some x → get_elem? to k ≡ some y → (slice_index_or from k 0 ≡ x)
    × (slice_index_or to k 0 ≡ y) = λ x y e f. (read_at from k x 0 e, read_at to k y 0 f) in
    elim c.if-by-gt0.branch [
      | then-by-gt0+in_ok-push w ↦
          let t : Turn = record { worker = k; by = slice_index_or to k 0 - slice_index_or from k 0 } in (
            inv.0 ++ t ∷ [],
            ap (λ (v : _). v.items) w.turns-is
                ∙ (w.in_ok-push.ensures.items ∙ (ap (λ (l : List Turn). l ++ t ∷ []) inv.1 ∙ append_assoc old inv.0 (t ∷ []))),
            one_more k from to inv.0 inv.2 t refl w.if-by-gt0.true (λ x y e f. let a = (read x y e f).0 in
                let b = (read x y e f).1 in omega (arith, a, b, low)),
          )
      | else-by-gt0 w ↦ (
        inv.0,
        ap (λ (v : _). v.items) w.turns-is ∙ inv.1,
        goes_on k from to inv.0 inv.2 (λ x y e f. let a = (read x y e f).0 in let b = (read x y e f).1 in
            let none = w.if-by-gt0.false in omega (arith, a, b, low, none)),
      )
    ]
