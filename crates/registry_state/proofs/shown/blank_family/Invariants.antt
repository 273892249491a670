use Rattle.std.proofs.Common.{◌≡◌, take, map}
use Rattle.registry_state.specs.Filled.{child_blank}
use Rattle.registry_state.proofs.shown.blank_family.Given as goal

abbrev pub invariant-loop-child : goal.invariant-loop-child
invariant-loop-child l = l.children.items ≡ map (child_blank l.kind) (take l.child-index l.child-items)
