-- Why a row refuses a list of operations.
use Rattle.std.specs.Prelude.{ℕ, ◌+◌, ◌<◌, List, take, slice_get, IsSomeAnd}
use Rattle.bucket_math.specs.Words.{greatest_word}
use Rattle.ledger_core.specs.declared.op.Op.{Op}
use Rattle.ledger_core.specs.declared.op_fault.OpFault.{OpFault}
use Rattle.ledger_core.specs.declared.op_fault.OpFault.TheVariants.{OutOfGeometry, TooLarge}
use Rattle.ledger_core.specs.Ops.{width, sum_ops, IsWithin}
use Rattle.ledger_core.specs.Row.{Accepts}

-- some word passes 2^48 - 1 where these operations are added to it
pub record Overflows (c h g : ℕ) (word : ℕ → ℕ) (ops : List Op) : Type 0 where
  pub at : ℕ
  pub within : at < width c h g
  pub above : greatest_word < word at + sum_ops c h ops at

-- the operation at this place is the first that fails: it is outside the row,
-- or within it and some word would pass 2^48 - 1 by it
abbrev pub IsOpFault : (c h g : ℕ) → (ℕ → ℕ) → List Op → OpFault → Type 0
IsOpFault c h g word ops (OutOfGeometry place) =
    Accepts c h g word (take place ops) × IsSomeAnd (slice_get ops place) (λ op. ¬ (IsWithin c h g op))
IsOpFault c h g word ops (TooLarge place) =
    Accepts c h g word (take place ops) × IsSomeAnd (slice_get ops place) (IsWithin c h g)
    × Overflows c h g word (take (place + 1) ops)

-- the number of each fault
abbrev pub number_of : OpFault → ℕ
number_of (OutOfGeometry _) = 11
number_of (TooLarge _) = 12
