-- The boards of a page that its owner makes.
use Rattle.std.specs.Prelude.{◌≡◌, ℕ, ◌+◌, List, Some, slice_get}
use Rattle.registry_state.specs.Kept.{RegistryView}

-- the ids of the boards follow each other, from this one on
abbrev pub AreNumbered : {S : Type 0} → (first : ℕ) → List (RegistryView S) → Type 0
AreNumbered {S} first boards = (k : ℕ) (board : RegistryView S) → slice_get boards k ≡ Some board → board.id ≡ first + k
