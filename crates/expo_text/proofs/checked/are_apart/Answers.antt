use Rattle.std.proofs.Common.{IsTrue, arith, rules}
use Rattle.metric_desc.specs.Desc.{Clash}
use Rattle.expo_text.specs.Scraped.{Family}
use Rattle.expo_text.proofs.Elements.{yes, no, pairs_next, pairs_taken, pairs_but}
use Rattle.expo_text.proofs.checked.are_apart.Goals as goal

pub loop-at-preserved : goal.loop-at-preserved
loop-at-preserved c =
    pairs_next (λ (a b : Family). ¬ (Clash a.desc b.desc)) c.args.families.now c.loop-at.at c.index-families-at.result
    (omega arith) c.index-families-at.is c.loop-at.invariant (c.are_apart_from.ensures.0 (search rules))

pub returns-then-not-are_apart_from : goal.returns-then-not-are_apart_from
returns-then-not-are_apart_from c =
    no (pairs_but (λ (a b : Family). ¬ (Clash a.desc b.desc)) c.args.families.now c.loop-at.at c.index-families-at.result
    (omega arith) c.index-families-at.is (λ apart. let is : IsTrue c.are_apart_from.result =
    c.are_apart_from.ensures.1 apart in absurd (search rules)))

pub returns : goal.returns
returns c = yes (pairs_taken (λ (a b : Family). ¬ (Clash a.desc b.desc)) c.args.families.now c.loop-at.at
    (omega arith) c.loop-at.invariant)
