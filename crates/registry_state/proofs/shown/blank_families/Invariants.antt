use Rattle.std.proofs.Common.{◌≡◌, take}
use Rattle.registry_state.specs.Filled.{blanks}
use Rattle.registry_state.proofs.shown.blank_families.Given as goal

abbrev pub invariant-loop-family : goal.invariant-loop-family
invariant-loop-family l = l.shown.items ≡ blanks l.families (take l.family-index l.order)
