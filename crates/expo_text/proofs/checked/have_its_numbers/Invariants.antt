use Rattle.std.proofs.Common.{take, All}
use Rattle.expo_text.specs.Scraped.{Child}
use Rattle.expo_text.specs.Order.{IsNumberOf}
use Rattle.expo_text.proofs.checked.have_its_numbers.Given as goal

-- the children before this place have numbers of the family's kind
abbrev pub invariant-loop-child : goal.invariant-loop-child
invariant-loop-child l = All (λ (child : Child). IsNumberOf l.desc.kind child.number) (take l.child-index l.children)
