-- What a source of snapshots shows of its scans.
use Rattle.std.specs.Prelude.{◌≡◌, ℕ, ◌<◌, ◌≤◌, List, [], ◌∷◌, ◌++◌, length, slice_index}
use Rattle.std.specs.Option.{ForSome}
use Rattle.ledger_core.specs.Ops.{width}
use Rattle.ledger_core.specs.Legal.{IsLegal}
use Rattle.register_rule.specs.declared.view.Answer.{Answer}
use Rattle.register_rule.specs.Members.{newest}
use Rattle.snapshot_scan.specs.Moments.{AreMoments}

-- of n workers and w words, no number and no total of b is below that of a
pub record NothingFalls (n w : ℕ) (a b : Answer) : Type 0 where
  pub numbers : (i : ℕ) → i < n → slice_index a.vector i ≤ slice_index b.vector i
  pub totals : (k : ℕ) → k < w → slice_index a.totals k ≤ slice_index b.totals k

-- an answer of n workers, c counters, h histograms and g gauges: it has a number for each worker and a total for each word,
-- and of each histogram the buckets add up to the count
pub record IsWhole (n c h g : ℕ) (a : Answer) : Type 0 where
  pub numbers : length a.vector ≡ n
  pub totals : length a.totals ≡ width c h g
  pub legal : IsLegal c h (slice_index a.totals)

-- a scan recorded one answer more, this one, which is whole and not below the one before it; all that is recorded are
-- moments of one history of publishes
pub record Records (n c h g : ℕ) (before after : List Answer) (a : Answer) : Type 0 where
  pub recorded : after ≡ before ++ a ∷ []
  pub whole : IsWhole n c h g a
  pub rises : ForSome (newest before) (λ b. NothingFalls n (width c h g) b a)
  pub moments : AreMoments n c h g after
