-- The words of a row, and what operations add to them.
use Rattle.std.specs.Prelude.{ℕ, ◌+◌, ◌*◌, ◌<◌, ◌==◌, if◌then◌else◌, List, sum_by}
use Rattle.ledger_core.specs.declared.op.Op.{Op}
use Rattle.ledger_core.specs.declared.op.Op.TheVariants.{Inc, Observe, Up, Down}

-- how many words a row has: one for each counter, 27 for each histogram (25 buckets, the sum, the count),
-- two for each gauge (the ups, the downs), in this order
abbrev pub width : (c h g : ℕ) → ℕ
width c h g = c + 27 * h + 2 * g

-- `by` at one word, and nothing at any other
abbrev pub only : (word by : ℕ) → ℕ → ℕ
only word by k = if k == word then by else 0

-- what one operation adds to the word k, in a row of c counters and h histograms
abbrev pub part : (c h : ℕ) → Op → ℕ → ℕ
part c h (Inc counter by) k = only counter by k
part c h (Observe hist place value) k =
    only (c + 27 * hist + place) 1 k + only (c + 27 * hist + 25) value k + only (c + 27 * hist + 26) 1 k
part c h (Up gauge by) k = only (c + 27 * h + 2 * gauge) by k
part c h (Down gauge by) k = only (c + 27 * h + 2 * gauge + 1) by k

-- what a list of operations adds to the word k: the plain sum
abbrev pub sum_ops : (c h : ℕ) → List Op → ℕ → ℕ
sum_ops c h ops k = sum_by (λ op. part c h op k) ops

-- the operation names a slot of the row, and of a histogram one of its 25 buckets
abbrev pub IsWithin : (c h g : ℕ) → Op → Type 0
IsWithin c h g (Inc counter by) = counter < c
IsWithin c h g (Observe hist place value) = (hist < h) × (place < 25)
IsWithin c h g (Up gauge by) = gauge < g
IsWithin c h g (Down gauge by) = gauge < g
