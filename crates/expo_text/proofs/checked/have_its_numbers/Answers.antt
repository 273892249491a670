use Rattle.std.proofs.Common.{arith, rules}
use Rattle.expo_text.specs.Scraped.{Child}
use Rattle.expo_text.specs.Order.{IsNumberOf}
use Rattle.expo_text.proofs.Elements.{yes, no, never, all_next, all_taken, all_but}
use Rattle.expo_text.proofs.checked.have_its_numbers.Goals as goal

pub loop-child-preserved : goal.loop-child-preserved
loop-child-preserved c =
    all_next (λ (child : Child). IsNumberOf c.args.desc.now.kind child.number) c.args.children.now c.loop-child.child-index
    c.child-item.result (omega arith) c.child-item.is c.loop-child.invariant (search rules)

pub returns-then-not-is_number_of : goal.returns-then-not-is_number_of
returns-then-not-is_number_of c =
    no (all_but (λ (child : Child). IsNumberOf c.args.desc.now.kind child.number) c.args.children.now c.loop-child.child-index
    c.child-item.result (omega arith) c.child-item.is (never (λ fits. c.if-not-is_number_of.ensures.1 (search rules))))

pub returns : goal.returns
returns c = yes (all_taken (λ (child : Child). IsNumberOf c.args.desc.now.kind child.number) c.args.children.now
    c.loop-child.child-index (omega arith) c.loop-child.invariant)
