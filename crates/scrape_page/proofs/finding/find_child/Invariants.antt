use Rattle.std.proofs.Common.{All, take}
use Rattle.registry_state.specs.Replay.{Family, IsNew}
use Rattle.registry_state.specs.Kept.{RegistryView}
use Rattle.scrape_page.specs.declared.family.Part.{Part}
use Rattle.scrape_page.specs.Places.{HasPart}
use Rattle.scrape_page.proofs.finding.find_child.Given as goal

abbrev pub invariant-loop-part : goal.invariant-loop-part
invariant-loop-part g l = All (λ (part : Part). HasPart l.boards part
    (λ (board : RegistryView g.row.S.Denot) (family : Family). IsNew family l.values)) (take l.part-index l.parts)
