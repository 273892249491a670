-- Increases from one scrape to the next, and what they make of it.
use Rattle.std.specs.Prelude.{◌≡◌, ℕ, ◌+◌, ◌%◌, ◌^◌, ◌<◌, ⊤, List, [], ◌∷◌, ◌++◌, slice_index, slice_set}
use Rattle.snapshot_scan.specs.Snapshots.{Taken}
use Rattle.scrape_history.specs.declared.increase.Increase.{Increase}
use Rattle.scrape_history.specs.declared.increase.Increase.TheVariants.{Number, Total}

-- a scrape and one increase
abbrev pub raised : Taken → Increase → Taken
raised t (Number worker by) = record t { vector = slice_set t.vector worker ((slice_index t.vector worker + by) % 2 ^ 64) }
raised t (Total word by) = record t { totals = slice_set t.totals word ((slice_index t.totals word + by) % 2 ^ 64) }

-- and several, one after another
abbrev pub raised_by : Taken → List Increase → Taken
raised_by t [] = t
raised_by t (increase ∷ increases) = raised_by (raised t increase) increases

-- of n workers and w words, the increase is of one that is there, which it changes, and a total that it leads to is below 2^53
abbrev pub IsFor : (n w : ℕ) → Taken → Increase → Type 0
IsFor n w t (Number worker by) = (worker < n) × (0 < by)
IsFor n w t (Total word by) = (word < w) × (0 < by) × ((slice_index t.totals word + by) % 2 ^ 64 < 9007199254740992)

-- each increase is so, after those before it
abbrev pub AreFor : (n w : ℕ) → Taken → List Increase → Type 0
AreFor n w t [] = ⊤
AreFor n w t (increase ∷ increases) = IsFor n w t increase × AreFor n w (raised t increase) increases

-- the increases lead from one scrape to another
pub record Lead (n w : ℕ) (t u : Taken) (increases : List Increase) : Type 0 where
  pub fit : AreFor n w t increases
  pub to : raised_by t increases ≡ u

-- to the increases were added some that lead from one scrape to another
pub record Adds (n w : ℕ) (t u : Taken) (old new : List Increase) : Type 0 where
  pub more : List Increase
  pub are : new ≡ old ++ more
  pub lead : Lead n w t u more
