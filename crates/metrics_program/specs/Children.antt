-- The children of a script.
use Rattle.std.specs.Prelude.{◌≡◌, ℕ, List, Some, slice_get}
use Rattle.registry_state.specs.declared.handle.Handle.{Handle}

-- both handles are of one child of a registry: of one kind, and of one slot
abbrev pub AreOne : Handle → Handle → Type 0
AreOne (Handle.Counter a) (Handle.Counter b) = a.slot ≡ b.slot
AreOne (Handle.Counter a) (Handle.Histogram b) = ⊥
AreOne (Handle.Counter a) (Handle.Gauge b) = ⊥
AreOne (Handle.Histogram a) (Handle.Counter b) = ⊥
AreOne (Handle.Histogram a) (Handle.Histogram b) = a.slot ≡ b.slot
AreOne (Handle.Histogram a) (Handle.Gauge b) = ⊥
AreOne (Handle.Gauge a) (Handle.Counter b) = ⊥
AreOne (Handle.Gauge a) (Handle.Histogram b) = ⊥
AreOne (Handle.Gauge a) (Handle.Gauge b) = a.slot ≡ b.slot

-- one of the children is that of this handle
abbrev pub HasOne : List Handle → Handle → Type 0
HasOne children handle = (number : ℕ) × (child : Handle) × (slice_get children number ≡ Some child) × AreOne child handle
