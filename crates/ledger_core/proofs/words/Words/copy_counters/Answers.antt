use Rattle.std.proofs.Common.{◌≡◌, ◌≢◌, ℕ, set, get_or, ◌∙◌, arith, below_more, get_or-set_same, get_or-set_other}
use Rattle.ledger_core.proofs.words.Words.copy_counters.Goals as goal

pub loop-counter-preserved : goal.loop-counter-preserved
loop-counter-preserved g c =
    let p = c.loop-counter.counter in let ws = c.loop-counter.words in let x = c.word.result in
    let a = c.loop-counter.auto.words in let t = c.loop-counter-test.true in let long = c.requires in
    below_more (λ (k : ℕ). get_or (set ws p x) k 0 ≡ get_or c.args.self.now k 0) p
    (λ k lt. let ne : k ≢ p = omega (arith, lt) in get_or-set_other ws p k x 0 ne ∙ c.loop-counter.invariant k lt)
    (get_or-set_same ws p x 0 (omega (arith, a, t, long)) ∙ c.word.ensures.value)
