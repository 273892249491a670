use Rattle.std.proofs.Common.{take}
use Rattle.registry_state.specs.Replay.{IsApart}
use Rattle.registry_state.proofs.family.first_clash.Given as goal

abbrev pub invariant-loop-number : goal.invariant-loop-number
invariant-loop-number l = IsApart (take l.number l.families) l.desc
