-- What a list of operations has taken, and why it takes no more.
use Rattle.std.specs.Prelude.{◌≡◌, ◌≢◌, ℕ, ◌+◌, ◌⊎◌, Some, List, [], ◌∷◌, ◌++◌, length, slice_get, slice_set, slice_index, All}
use Rattle.ledger_core.specs.declared.op.Op.{Op}
use Rattle.ledger_core.specs.Ops.{width, part, sum_ops, IsWithin}
use Rattle.ledger_core.specs.Rise.{LacksRoom}
use Rattle.ledger_core.specs.declared.tally_fault.TallyFault.{TallyFault}
use Rattle.ledger_core.specs.declared.tally_fault.TallyFault.TheVariants.{WrongRegistry, Outside, TooLarge, Full}
use Rattle.ledger_core.specs.Joining.{IsSameSlot}

-- the list adds at each word of each row what these operations add
abbrev pub AddsUpTo : (ops told : List Op) → Type 0
AddsUpTo ops told = (c h k : ℕ) → sum_ops c h ops k ≡ sum_ops c h told k

-- the new list adds at each word of each row what the old one does, and what this operation does: so it adds up to all that was
-- told before, and this operation. Each of its operations is within each row that the others and this one are within. It has as
-- many operations as the old one, or just this one behind those: nothing is listed beside it
pub record Takes (old : List Op) (op : Op) (new : List Op) : Type 0 where
  pub sums : (c h k : ℕ) → sum_ops c h new k ≡ sum_ops c h old k + part c h op k
  pub adds_up : (told : List Op) → AddsUpTo old told → AddsUpTo new (told ++ op ∷ [])
  pub within : (c h g : ℕ) → All (IsWithin c h g) old → IsWithin c h g op → All (IsWithin c h g) new
  pub longer : (length new ≡ length old) ⊎ (new ≡ old ++ op ∷ [])

-- the new list has the old one's operations, and at this place this one, or one of its slot. That is the place `hint`, if an
-- operation of its slot stands there
pub record IsPlaced (hint : ℕ) (old : List Op) (op : Op) (new : List Op) (place : ℕ) : Type 0 where
  pub others : (i : ℕ) (o : Op) → slice_get new i ≡ Some o
      → ((i ≡ place) × ((o ≡ op) ⊎ IsSameSlot o op)) ⊎ ((i ≢ place) × (slice_get old i ≡ Some o))
  pub joins : (o : Op) → slice_get old hint ≡ Some o → IsSameSlot o op → place ≡ hint

-- the table has at this slot the place of the operation, and at the others what it had
pub record IsFollowed (slot : ℕ) (old : List Op) (op : Op) (new : List Op) (places places' : List ℕ) : Type 0 where
  pub place : ℕ
  pub placed : IsPlaced (slice_index places slot) old op new place
  pub table : places' ≡ slice_set places slot place

-- at some word of each row that the operation is within, what the list adds and what it adds is more than 2^48 - 1
abbrev pub PassesLimit : List Op → Op → Type 0
PassesLimit ops op = (c h g : ℕ) → IsWithin c h g op → LacksRoom (width c h g) (sum_ops c h ops) (part c h op)

-- why a list of at most this room does not take the operation
abbrev pub IsListFault : (room : ℕ) → List Op → Op → TallyFault → Type 0
IsListFault room ops op WrongRegistry = ⊥
IsListFault room ops op Outside = ⊥
IsListFault room ops op TooLarge = PassesLimit ops op
IsListFault room ops op Full = length ops ≡ room

-- at this place of the list, if there is one, no operation stands that this one would join
abbrev pub IsApartAt : (hint : ℕ) → List Op → Op → Type 0
IsApartAt hint ops op = (o : Op) → slice_get ops hint ≡ Some o → ¬ (IsSameSlot o op)

-- why it does not take the operation by a table that has the place of its slot's: it is full only where nothing stands there to
-- join
abbrev pub IsJoinFault : (room hint : ℕ) → List Op → Op → TallyFault → Type 0
IsJoinFault room hint ops op WrongRegistry = ⊥
IsJoinFault room hint ops op Outside = ⊥
IsJoinFault room hint ops op TooLarge = PassesLimit ops op
IsJoinFault room hint ops op Full = (length ops ≡ room) × IsApartAt hint ops op
