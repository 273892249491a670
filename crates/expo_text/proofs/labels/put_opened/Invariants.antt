use Rattle.std.proofs.Common.{take}
use Rattle.std.specs.Prelude.{zip, All}
use Rattle.metric_names.specs.LabelName.{IsLabelName}
use Rattle.expo_text.specs.Spelled.{IsSpelledValue}
use Rattle.expo_text.specs.Walk.{opened}
use Rattle.expo_text.proofs.labels.put_opened.Given as goal

-- the labels so far
abbrev pub invariant-loop-place : goal.invariant-loop-place
invariant-loop-place g l =
    g.S.Sink.took l.fn.sink l.sink (opened (take l.place (zip l.names l.values))) × All IsLabelName (take l.place l.names)
    × All IsSpelledValue (take l.place l.values)
