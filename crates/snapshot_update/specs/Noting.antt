-- Noting items at which something changes.
use Rattle.std.specs.Prelude.{◌≡◌, ℕ, ◌+◌, ◌<◌, ◌≤◌, ◌⊎◌, false, List, [], ◌∷◌, length, slice_index, Contains, ◌*◌}
use Rattle.ledger_core.specs.declared.op.Op.{Op}
use Rattle.ledger_core.specs.declared.op.Op.TheVariants.{Inc, Observe, Up, Down}
use Rattle.ledger_core.specs.Ops.{sum_ops}
use Rattle.snapshot_scan.specs.ChangedItems.{ChangedView}
use Rattle.std.specs.Int.{bit_at}
use Rattle.snapshot_update.specs.declared.run.Run.{Run}

-- the words that rise are listed, of a row of w words: all stay all; else the old items are listed, and behind them at most n
-- items more (n is a bound of the list's growth, for `fits`: a list has room for 256), words of the row, with each word k at
-- which `by k` is not 0
pub record Touches (n w : ℕ) (by : ℕ → ℕ) (old new : ChangedView) : Type 0 where
  pub listed : new.all ≡ false → old.all ≡ false
  pub keeps : new.all ≡ false → (j : ℕ) → Contains old.items j → Contains new.items j
  pub rises : new.all ≡ false → (k : ℕ) → ¬ (Contains new.items k) → by k ≡ 0
  pub inside : (j : ℕ) → Contains new.items j → Contains old.items j ⊎ (j < w)
  pub longer : length new.items ≤ length old.items + n
  pub fits : old.all ≡ false → length old.items + n ≤ 256 → new.all ≡ false

-- not all words may have changed: of a row of w words those are listed that these operations add to, and no items that are not
-- words of the row
pub record AreTouched (c h w : ℕ) (ops : List Op) (touched : ChangedView) : Type 0 where
  pub listed : touched.all ≡ false
  pub rises : (k : ℕ) → ¬ (Contains touched.items k) → sum_ops c h ops k ≡ 0
  pub inside : (j : ℕ) → Contains touched.items j → j < w

-- where two images differ is listed, of their items below n
pub record SoFar (n : ℕ) (changed : ChangedView) (old new : List ℕ) : Type 0 where
  pub differ : changed.all ≡ false → (j : ℕ) → j < n → ¬ (Contains changed.items j) → slice_index old j ≡ slice_index new j
  pub inside : (j : ℕ) → Contains changed.items j → j < n
  pub listed : (j : ℕ) → Contains changed.items j → ¬ (slice_index old j ≡ slice_index new j)
  pub longer : length changed.items ≤ n
  pub fits : n ≤ 256 → changed.all ≡ false

-- of the histogram whose first word is `first`, the sum and the count are listed, and each bucket whose bit is 1
pub record AreListed (first seen : ℕ) (items : List ℕ) : Type 0 where
  pub sum : Contains items (first + 25)
  pub count : Contains items (first + 26)
  pub buckets : (p : ℕ) → bit_at seen p ≡ 1 → Contains items (first + p)

-- in a row of c counters and h histograms: where a histogram has been observed, its words are listed so
abbrev pub IsRun : (c h : ℕ) → Run → ChangedView → Type 0
IsRun c h run touched = run.hist < h → touched.all ≡ false → AreListed (c + 27 * run.hist) run.seen touched.items

-- the words of a row of c counters and h histograms that an operation adds to
abbrev pub words_of : (c h : ℕ) → Op → List ℕ
words_of c h (Inc counter by) = counter ∷ []
words_of c h (Observe hist place value) = (c + 27 * hist + 25) ∷ (c + 27 * hist + 26) ∷ (c + 27 * hist + place) ∷ []
words_of c h (Up gauge by) = (c + 27 * h + 2 * gauge) ∷ []
words_of c h (Down gauge by) = (c + 27 * h + 2 * gauge + 1) ∷ []
