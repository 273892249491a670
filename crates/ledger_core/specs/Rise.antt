-- One step of a row: what each word rises by, and why a step is refused.
use Rattle.std.specs.Prelude.{◌≡◌, ℕ, ◌+◌, ◌<◌, ◌≤◌, List, length, slice_index}
use Rattle.bucket_math.specs.Words.{greatest_word}
use Rattle.ledger_core.specs.declared.op.Op.{Op}
use Rattle.ledger_core.specs.declared.op_fault.OpFault.{OpFault}
use Rattle.ledger_core.specs.declared.op_fault.OpFault.TheVariants.{OutOfGeometry, TooLarge}
use Rattle.ledger_core.specs.Ops.{width, part, IsWithin}

-- the new row has at each word k what the old one has, and `by k` more
pub record Rises (old : List ℕ) (by : ℕ → ℕ) (new : List ℕ) : Type 0 where
  pub width_stays : length new ≡ length old
  pub sums : (k : ℕ) → slice_index new k ≡ slice_index old k + by k

-- no word passes 2^48 - 1 where each word k rises by `by k`
abbrev pub HasRoom : (word by : ℕ → ℕ) → Type 0
HasRoom word by = (k : ℕ) → word k + by k ≤ greatest_word

-- some word of n passes 2^48 - 1 where each word k rises by `by k`
abbrev pub LacksRoom : (n : ℕ) (word by : ℕ → ℕ) → Type 0
LacksRoom n word by = (k : ℕ) × (k < n) × (greatest_word < word k + by k)

-- why one operation, at the place `at`, is refused
abbrev pub Refuses : (c h g : ℕ) → (ℕ → ℕ) → ℕ → Op → OpFault → Type 0
Refuses c h g word at op (OutOfGeometry place) = (place ≡ at) × (¬ (IsWithin c h g op))
Refuses c h g word at op (TooLarge place) =
    (place ≡ at) × IsWithin c h g op × LacksRoom (width c h g) word (part c h op)
