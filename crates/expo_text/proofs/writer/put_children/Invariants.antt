use Rattle.std.proofs.Common.{◌<◌, take, All}
use Rattle.metric_names.specs.LabelName.{IsLabelName}
use Rattle.expo_text.specs.Spelled.{IsSpelledChild}
use Rattle.expo_text.proofs.Lines.{lines}
use Rattle.expo_text.proofs.writer.put_children.Given as goal

-- the lines of the children so far
abbrev pub invariant-loop-child : goal.invariant-loop-child
invariant-loop-child g l =
    g.S.Sink.took l.fn.sink l.sink (lines l.desc (take l.child-index l.children))
    × All IsSpelledChild (take l.child-index l.children) × (0 < l.child-index → All IsLabelName l.desc.labels)
