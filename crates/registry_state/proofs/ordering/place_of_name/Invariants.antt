use Rattle.std.specs.List.{AllWithin}
use Rattle.expo_text.specs.Order.{IsBefore}
use Rattle.registry_state.specs.Held.{family_at}
use Rattle.registry_state.proofs.ordering.place_of_name.Given as goal

abbrev pub invariant-loop-place : goal.invariant-loop-place
invariant-loop-place l = AllWithin (λ i. IsBefore (family_at l.families i).desc.name l.name) l.order 0 l.place
