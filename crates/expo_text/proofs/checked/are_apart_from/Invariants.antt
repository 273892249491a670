use Rattle.std.proofs.Common.{take, All}
use Rattle.metric_desc.specs.Desc.{Clash}
use Rattle.expo_text.specs.Scraped.{Family}
use Rattle.expo_text.proofs.checked.are_apart_from.Given as goal

-- the lines of no family before this place take a name that the last one's take
abbrev pub invariant-loop-family : goal.invariant-loop-family
invariant-loop-family l = All (λ (family : Family). ¬ (Clash family.desc l.last.desc)) (take l.family-index l.families)
