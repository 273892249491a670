use Rattle.std.proofs.Common.{◌∙◌, arith}
use Rattle.std.proofs.lemmas.List.{same_lists, get_or_default}
use Rattle.ledger_core.proofs.words.Words.copy_to.Goals as goal

pub returns-clause-same : goal.returns-clause-same
returns-clause-same g c =
    let ws = c.copy_gauges.new.words in
    let a = c.copy_counters.auto.words in let b = c.copy_hists.auto.words in let d = c.copy_gauges.auto.words in
    let long = c.requires in
    let wide = c.len.ensures.width in let within = c.len.ensures.within in
    same_lists ws c.args.self.now (omega (arith, a, b, d, long, wide, within)) (λ k x lt. get_or_default ws k x 0 lt
    ∙ (c.copy_gauges.ensures k (omega (arith, a, b, d, long, lt))
    ∙ get_or_default c.args.self.now k 0 x (omega (arith, a, b, d, long, wide, within, lt))))

pub returns-clause-low : goal.returns-clause-low
returns-clause-low g c = λ k. rw (returns-clause-same g c, ← c.self.view_is) (c.self.invariant.bounded k)
