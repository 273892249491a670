use Rattle.std.proofs.Common.{◌≡◌, length, arith, rules}
use Rattle.expo_text.specs.Scraped.{Child}
use Rattle.expo_text.proofs.Elements.{yes, no, all_next, all_taken, all_but}
use Rattle.expo_text.proofs.checked.have_all_values.Goals as goal

pub loop-child-preserved : goal.loop-child-preserved
loop-child-preserved c =
    all_next (λ (child : Child). length child.values ≡ length c.args.desc.now.labels) c.args.children.now c.loop-child.child-index
    c.child-item.result (omega arith) c.child-item.is c.loop-child.invariant (search rules)

pub returns-then-len-labels : goal.returns-then-len-labels
returns-then-len-labels c =
    no (all_but (λ (child : Child). length child.values ≡ length c.args.desc.now.labels) c.args.children.now
    c.loop-child.child-index c.child-item.result (omega arith) c.child-item.is (λ same. c.if-len-labels.true (search rules)))

pub returns : goal.returns
returns c = yes (all_taken (λ (child : Child). length child.values ≡ length c.args.desc.now.labels) c.args.children.now
    c.loop-child.child-index (omega arith) c.loop-child.invariant)
