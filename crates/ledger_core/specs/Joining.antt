-- Two operations on one slot as one.
use Rattle.std.specs.Prelude.{◌≡◌, ℕ, ◌+◌, ◌≤◌}
use Rattle.bucket_math.specs.Words.{greatest_word}
use Rattle.ledger_core.specs.declared.op.Op.{Op}
use Rattle.ledger_core.specs.declared.op.Op.TheVariants.{Inc, Observe, Up, Down}
use Rattle.ledger_core.specs.Ops.{width, part, IsWithin}
use Rattle.ledger_core.specs.Rise.{LacksRoom}
use Rattle.ledger_core.specs.declared.joining.Joined.{Joined}
use Rattle.ledger_core.specs.declared.joining.Joined.TheVariants.{One, TooLarge, Apart}

-- what an operation adds to the word that it names; of an observation the value
abbrev pub amount_of : Op → ℕ
amount_of (Inc counter by) = by
amount_of (Observe hist place value) = value
amount_of (Up gauge by) = by
amount_of (Down gauge by) = by

-- the same operation, adding this much
abbrev pub with_amount : ℕ → Op → Op
with_amount amount (Inc counter by) = Inc counter amount
with_amount amount (Observe hist place value) = Observe hist place amount
with_amount amount (Up gauge by) = Up gauge amount
with_amount amount (Down gauge by) = Down gauge amount

-- the operation adds at most 2^48 - 1
abbrev pub IsSmall : Op → Type 0
IsSmall op = amount_of op ≤ greatest_word

-- both are increments of one counter, or raise one gauge, or lower one
abbrev pub IsSameSlot : (first second : Op) → Type 0
IsSameSlot (Inc counter by) (Inc other more) = counter ≡ other
IsSameSlot (Up gauge by) (Up other more) = gauge ≡ other
IsSameSlot (Down gauge by) (Down other more) = gauge ≡ other
IsSameSlot _ _ = ⊥

-- the one operation adds to each word of each row what the two do; it is within each row that the second is within, of the
-- second's slot, and adds at most 2^48 - 1
pub record IsSumOf (first second both : Op) : Type 0 where
  pub sums : (c h k : ℕ) → part c h both k ≡ part c h first k + part c h second k
  pub within : (c h g : ℕ) → IsWithin c h g second → IsWithin c h g both
  pub same : IsSameSlot both second
  pub small : IsSmall both

-- at some word of each row that the second is within, the two add up to more than 2^48 - 1
abbrev pub PassTogether : (first second : Op) → Type 0
PassTogether first second = (c h g : ℕ) → IsWithin c h g second → LacksRoom (width c h g) (part c h first) (part c h second)

-- what joining two operations comes to: one operation of their sum; or together they are too much; or their slots are two
abbrev pub IsJoined : (first second : Op) → Joined → Type 0
IsJoined first second (One sum) = IsSumOf first second (with_amount sum first)
IsJoined first second TooLarge = PassTogether first second
IsJoined first second Apart = ¬ (IsSameSlot first second)
