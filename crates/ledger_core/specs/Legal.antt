-- Legal rows: of each histogram the buckets add up to the count.
use Rattle.std.specs.Prelude.{◌≡◌, ℕ, ◌+◌, ◌*◌, ◌<◌, List, sum_by, All}
use Rattle.std.specs.List.{range_with_len}
use Rattle.ledger_core.specs.declared.op.Op.{Op}
use Rattle.ledger_core.specs.Ops.{sum_ops, IsWithin}

-- the sum of the 25 buckets of a histogram, in a row of c counters and of these words
abbrev pub bucket_sum : (c : ℕ) → (ℕ → ℕ) → ℕ → ℕ
bucket_sum c word slot = sum_by (λ place. word (c + 27 * slot + place)) (range_with_len 0 25)

-- the count of each of the h histograms is the sum of its buckets
pub record IsLegal (c h : ℕ) (word : ℕ → ℕ) : Type 0 where
  pub counts : (slot : ℕ) → slot < h → word (c + 27 * slot + 26) ≡ bucket_sum c word slot

-- what operations within the row add up to is legal
abbrev pub SumsAreLegal : (c h g : ℕ) → Type 0
SumsAreLegal c h g = (ops : List Op) → All (IsWithin c h g) ops → IsLegal c h (sum_ops c h ops)

-- two legal rows added word by word are legal
abbrev pub LegalSumsAreLegal : (c h : ℕ) → Type 0
LegalSumsAreLegal c h = (a b : ℕ → ℕ) → IsLegal c h a → IsLegal c h b → IsLegal c h (λ k. a k + b k)
