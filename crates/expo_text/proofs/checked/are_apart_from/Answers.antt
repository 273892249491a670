use Rattle.std.proofs.Common.{IsTrue, refl, arith, rules}
use Rattle.metric_desc.specs.Desc.{Clash}
use Rattle.expo_text.specs.Scraped.{Family}
use Rattle.expo_text.proofs.Elements.{yes, no, all_next, all_taken, all_but}
use Rattle.expo_text.proofs.checked.are_apart_from.Goals as goal

pub loop-family-preserved : goal.loop-family-preserved
loop-family-preserved c =
    let apart : ¬ (Clash c.family-item.result.desc c.args.last.now.desc) = λ clash. let found : IsTrue c.clashes.result =
    c.clashes.ensures.1 (search rules) in absurd (search rules) in
    all_next (λ (family : Family). ¬ (Clash family.desc c.args.last.now.desc)) c.args.families.now c.loop-family.family-index
    c.family-item.result (omega arith) c.family-item.is c.loop-family.invariant apart

pub returns-then-clashes : goal.returns-then-clashes
returns-then-clashes c =
    let clash : Clash c.family-item.result.desc c.args.last.now.desc = let found = c.if-clashes.ensures.0 refl in search rules in
    no (all_but (λ (family : Family). ¬ (Clash family.desc c.args.last.now.desc)) c.args.families.now c.loop-family.family-index
    c.family-item.result (omega arith) c.family-item.is (λ apart. apart clash))

pub returns : goal.returns
returns c = yes (all_taken (λ (family : Family). ¬ (Clash family.desc c.args.last.now.desc)) c.args.families.now
    c.loop-family.family-index (omega arith) c.loop-family.invariant)
