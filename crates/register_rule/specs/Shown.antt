-- What a version of a segment shows.
use Rattle.std.specs.Prelude.{◌≡◌, ℕ, ◌<◌, Some, List}
use mathlib.Core.Option.{some}
use lib.ListN.{get_elem?}
use Rattle.ledger_core.specs.declared.op.Op.{Op}
use Rattle.segment_layout.specs.declared.part.Item.TheVariants.{Flag, Vector, Lent}
use Rattle.segment_layout.specs.Layout.{item_at}
use Rattle.register_rule.specs.declared.view.PublishEntry.{PublishEntry}
use Rattle.register_rule.specs.declared.view.Answer.{Answer}
use Rattle.register_rule.specs.Sums.{word_after, last_lent, flag_of}

-- the item k of the buffer of the version after these publishes is x: the row's words, the flag, and where the flag
-- is 1, the vector and the totals that are lent. n workers, rows of w words
pub record Shows (n w : ℕ) (adds : List Op → ℕ → ℕ) (made : List PublishEntry) (k x : ℕ) : Type 0 where
  pub row : k < w → x ≡ word_after adds made k
  pub flag : k ≡ item_at n w Flag → x ≡ flag_of (last_lent made)
  pub vector : (a : Answer) (j : ℕ) → last_lent made ≡ Some a → j < n → k ≡ item_at n w (Vector j) → get_elem? a.vector j ≡ some x
  pub totals : (a : Answer) (j : ℕ) → last_lent made ≡ Some a → j < w → k ≡ item_at n w (Lent j) → get_elem? a.totals j ≡ some x
