-- Which lists of operations a row accepts, and the row afterwards.
use Rattle.std.specs.Prelude.{◌≡◌, ℕ, ◌+◌, ◌<◌, ◌≤◌, List, length, take, slice_index, All, ◌++◌}
use Rattle.bucket_math.specs.Words.{greatest_word}
use Rattle.ledger_core.specs.declared.op.Op.{Op}
use Rattle.ledger_core.specs.Ops.{width, sum_ops, IsWithin}
use Rattle.std.specs.List.{concat}

-- no word passes 2^48 - 1 where these operations are added to it
abbrev pub Fits : (c h g : ℕ) → (ℕ → ℕ) → List Op → Type 0
Fits c h g word ops = (k : ℕ) → k < width c h g → word k + sum_ops c h ops k ≤ greatest_word

-- a row of these words accepts the list: each operation is within the row,
-- and no word passes 2^48 - 1 by any beginning of the list
pub record Accepts (c h g : ℕ) (word : ℕ → ℕ) (ops : List Op) : Type 0 where
  pub within : All (IsWithin c h g) ops
  pub fits : (j : ℕ) → j ≤ length ops → Fits c h g word (take j ops)

-- the new row is the old one and the sum of the operations, word by word
pub record Adds (c h : ℕ) (old : List ℕ) (ops : List Op) (new : List ℕ) : Type 0 where
  pub width_stays : length new ≡ length old
  pub sums : (k : ℕ) → slice_index new k ≡ slice_index old k + sum_ops c h ops k

-- c counters, h histograms of 27 words and g gauges of two, no word of which is over 2^48 - 1
pub record HasShape (c h g : ℕ) (counters : List ℕ) (hists gauges : List (List ℕ)) : Type 0 where
  pub all_counters : length counters ≡ c
  pub all_hists : length hists ≡ h
  pub all_gauges : length gauges ≡ g
  pub hist_words : All (λ xs. length xs ≡ 27) hists
  pub gauge_words : All (λ xs. length xs ≡ 2) gauges
  pub bounded : (k : ℕ) → slice_index (counters ++ concat hists ++ concat gauges) k ≤ greatest_word
