use Rattle.std.proofs.Common.{take, All}
use Rattle.std.specs.List.{flat_map}
use Rattle.expo_text.specs.Spelled.{IsSpelledIfPrinted}
use Rattle.expo_text.specs.Shown.{shown_group_text}
use Rattle.expo_text.proofs.writer.put_groups.Given as goal

-- the groups of the families so far
abbrev pub invariant-loop-family : goal.invariant-loop-family
invariant-loop-family g l =
    g.S.Sink.took l.fn.sink l.sink (flat_map shown_group_text (take l.family-index l.family-items))
    × All IsSpelledIfPrinted (take l.family-index l.family-items)
