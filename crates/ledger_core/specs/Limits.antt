-- How many workers there may be, and how many slots a row may have. The limits are this project's own.
use Rattle.std.specs.Prelude.{ℕ, ◌≤◌}

-- there are 1 to 32 workers
abbrev pub AreWorkers : ℕ → Type 0
AreWorkers n = (1 ≤ n) × (n ≤ 32)

-- a row has at most 256 counters, 32 histograms and 64 gauges
pub record AreSlots (c h g : ℕ) : Type 0 where
  pub counters : c ≤ 256
  pub histograms : h ≤ 32
  pub gauges : g ≤ 64
