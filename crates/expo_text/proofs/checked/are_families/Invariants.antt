use Rattle.std.proofs.Common.{take, All}
use Rattle.expo_text.specs.Order.{IsFamily}
use Rattle.expo_text.proofs.checked.are_families.Given as goal

-- the families before this place are families of a scrape
abbrev pub invariant-loop-family : goal.invariant-loop-family
invariant-loop-family l = All IsFamily (take l.family-index l.families)
