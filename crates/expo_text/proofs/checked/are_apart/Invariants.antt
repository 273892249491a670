use Rattle.std.proofs.Common.{take, AllPairs}
use Rattle.metric_desc.specs.Desc.{Clash}
use Rattle.expo_text.specs.Scraped.{Family}
use Rattle.expo_text.proofs.checked.are_apart.Given as goal

-- the lines of no two families before this place take one name
abbrev pub invariant-loop-at : goal.invariant-loop-at
invariant-loop-at l = AllPairs (λ (a b : Family). ¬ (Clash a.desc b.desc)) (take l.at l.families)
