use Rattle.std.proofs.Common.{◌≤◌, take}
use Rattle.std.specs.List.{flat_map}
use Rattle.metric_names.specs.ByteText.{byte_text}
use Rattle.expo_text.proofs.Runs.{IsRun}
use Rattle.expo_text.proofs.labels.put_escaped.Given as goal

-- the text up to `start` is written, and from there on no byte is escaped
abbrev pub invariant-loop-at : goal.invariant-loop-at
invariant-loop-at g l =
    (l.start ≤ l.at) × g.S.Sink.took l.fn.sink l.sink (flat_map (byte_text l.quoted) (take l.start l.bytes))
    × IsRun (byte_text l.quoted) l.bytes l.start l.at
