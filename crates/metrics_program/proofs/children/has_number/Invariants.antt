use Rattle.std.proofs.Common.{ℕ, ◌<◌, ◌≡◌}
use Rattle.std.specs.Prelude.{Some, slice_get}
use Rattle.registry_state.specs.declared.handle.Handle.{Handle}
use Rattle.metrics_program.specs.Children.{AreOne}
use Rattle.metrics_program.proofs.children.has_number.Given as goal

-- none of the children so far is that of the handle
abbrev pub invariant-loop-child : goal.invariant-loop-child
invariant-loop-child l = (number : ℕ) (child : Handle) → number < l.child-index → slice_get l.children number ≡ Some child
    → ¬ (AreOne child l.handle)
