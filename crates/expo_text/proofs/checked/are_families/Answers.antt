use Rattle.std.proofs.Common.{arith, rules}
use Rattle.expo_text.specs.Order.{IsFamily}
use Rattle.expo_text.proofs.Elements.{yes, no, never, all_next, all_taken, all_but}
use Rattle.expo_text.proofs.checked.are_families.Goals as goal

pub loop-family-preserved : goal.loop-family-preserved
loop-family-preserved c =
    all_next IsFamily c.args.families.now c.loop-family.family-index c.family-item.result (omega arith) c.family-item.is
    c.loop-family.invariant (c.is_family.ensures.0 (search rules))

pub returns-then-not-is_family : goal.returns-then-not-is_family
returns-then-not-is_family c =
    no (all_but IsFamily c.args.families.now c.loop-family.family-index c.family-item.result (omega arith) c.family-item.is
    (never c.if-not-is_family.ensures.1))

pub returns : goal.returns
returns c = yes (all_taken IsFamily c.args.families.now c.loop-family.family-index (omega arith) c.loop-family.invariant)
