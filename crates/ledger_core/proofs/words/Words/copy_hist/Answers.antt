use Rattle.std.proofs.Common.{◌≡◌, ◌≢◌, ◌+◌, ◌*◌, ℕ, set, get_or, ◌∙◌, arith, below_more, get_or-set_same, get_or-set_other}
use Rattle.ledger_core.proofs.words.Words.copy_hist.Goals as goal

pub loop-item-preserved : goal.loop-item-preserved
loop-item-preserved g c =
    let p = g.row.C + 27 * c.args.hist + c.loop-item.item in let ws = c.loop-item.words in let x = c.word.result in
    let a = c.loop-item.auto.words in let t = c.loop-item-test.true in let long = c.requires.long in let h = c.requires.inside in
    λ k lt. below_more (λ (k : ℕ). get_or (set ws p x) k 0 ≡ get_or c.args.self.now k 0) p
    (λ k lt. let ne : k ≢ p = omega (arith, lt) in get_or-set_other ws p k x 0 ne ∙ c.loop-item.invariant k lt)
    (get_or-set_same ws p x 0 (omega (arith, a, t, long, h)) ∙ c.word.ensures.value)
    k (omega (arith, lt))
