use Rattle.std.proofs.Common.{◌≡◌, take}
use Rattle.std.specs.List.{flat_map}
use Rattle.metric_names.specs.ByteText.{byte_text}
use Rattle.metric_names.proofs.escaping.is_verbatim.Given as goal

-- no byte before this place is escaped
abbrev pub invariant-loop-at : goal.invariant-loop-at
invariant-loop-at l = flat_map (byte_text l.quoted) (take l.at l.bytes) ≡ take l.at l.bytes
