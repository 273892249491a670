use Rattle.std.proofs.Common.{◌≡◌, length, take, All}
use Rattle.expo_text.specs.Scraped.{Child}
use Rattle.expo_text.proofs.checked.have_all_values.Given as goal

-- the children before this place have as many values as the family has labels
abbrev pub invariant-loop-child : goal.invariant-loop-child
invariant-loop-child l = All (λ (child : Child). length child.values ≡ length l.desc.labels) (take l.child-index l.children)
