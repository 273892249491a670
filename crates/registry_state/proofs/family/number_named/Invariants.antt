use Rattle.std.proofs.Common.{◌≢◌, All, take}
use Rattle.registry_state.specs.Replay.{Family}
use Rattle.registry_state.proofs.family.number_named.Given as goal

abbrev pub invariant-loop-place : goal.invariant-loop-place
invariant-loop-place l = All (λ (family : Family). family.desc.name ≢ l.name) (take l.place l.families)
