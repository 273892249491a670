use Rattle.std.proofs.Common.{◌≡◌, ◌≢◌, ◌<◌, ◌+◌, ◌*◌, ℕ, set, length-set, get_or, ap, ◌∙◌, arith, below_more, get_or-set_same}
use Rattle.std.proofs.Common.{get_or-set_other}
use Rattle.ledger_core.proofs.words.Words.copy_gauges.Goals as goal

pub loop-gauge-preserved : goal.loop-gauge-preserved
loop-gauge-preserved g c =
    let p = g.row.C + 27 * g.row.H + 2 * c.loop-gauge.gauge in let ws = c.loop-gauge.words in let x = c.word.result in
    let y = c.word-in-loop-gauge.result in
    let a = c.loop-gauge.auto.words in let t = c.loop-gauge-test.true in let long = c.requires.long in
    let up : p + 0 ≡ p = omega arith in
    let one : (k : ℕ) → k < p + 1 → get_or (set ws p x) k 0 ≡ get_or c.args.self.now k 0 =
    below_more (λ (k : ℕ). get_or (set ws p x) k 0 ≡ get_or c.args.self.now k 0) p
    (λ k lt. let ne : k ≢ p = omega (arith, lt) in get_or-set_other ws p k x 0 ne ∙ c.loop-gauge.invariant k lt)
    (get_or-set_same ws p x 0 (omega (arith, a, t, long))
    ∙ (c.word.ensures.value ∙ ap (λ (z : ℕ). get_or c.args.self.now z 0) up)) in
    λ k lt. below_more (λ (k : ℕ). get_or (set (set ws p x) (p + 1) y) k 0 ≡ get_or c.args.self.now k 0) (p + 1)
    (λ k lt. let ne : k ≢ p + 1 = omega (arith, lt) in get_or-set_other (set ws p x) (p + 1) k y 0 ne ∙ one k lt)
    (get_or-set_same (set ws p x) (p + 1) y 0 (let same = length-set ws p x in omega (arith, a, t, long, same))
    ∙ c.word-in-loop-gauge.ensures.value)
    k (omega (arith, lt))
