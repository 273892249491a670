-- What a scan gives its caller.
use Rattle.std.specs.Prelude.{◌≡◌, ℕ, ◌<◌, List, length, slice_index}
use Rattle.ledger_core.specs.Limits.{AreSlots}
use Rattle.ledger_core.specs.Ops.{width}
use Rattle.register_rule.specs.declared.view.Answer.{Answer}

-- the number of each worker, and the totals of all rows at these numbers
pub record Taken : Type 0 where
  pub vector : List ℕ
  pub totals : List ℕ

-- as an answer that a seat records
abbrev pub as_answer : Taken → Answer
as_answer t = record { vector = t.vector; totals = t.totals }

-- no total of w is 2^53 or more
abbrev pub AreLow : (w : ℕ) → List ℕ → Type 0
AreLow w totals = (k : ℕ) → k < w → slice_index totals k < 9007199254740992

-- n numbers, and a total below 2^53 for each word of a row of c counters, h histograms and g gauges
pub record IsTaken (n c h g : ℕ) (vector totals : List ℕ) : Type 0 where
  pub slots : AreSlots c h g
  pub all : length vector ≡ n
  pub wide : length totals ≡ width c h g
  pub low : AreLow (width c h g) totals
