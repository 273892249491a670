-- A row that is read word by word over the words of another one.
use Rattle.std.specs.Prelude.{◌≡◌, ℕ, ◌<◌, ◌≤◌, List, take, slice_index}
use Rattle.bucket_math.specs.Words.{greatest_word}
use Rattle.register_rule.specs.declared.view.Member.{Member}
use Rattle.register_rule.specs.Members.{led, scan_changed}
use Rattle.snapshot_scan.specs.Shape.{read_all}
use Rattle.snapshot_scan.specs.ChangedItems.{ChangedView, ListsChanges}

-- of the row of w words that the version s of the place i has, the first k words are read, and stand over those of `row`: where
-- that changed words is listed
pub record IsReadTo (w i s k : ℕ) (before after : List Member) (row words : List ℕ) (listed listed' : ChangedView) : Type 0 where
  pub member : after ≡ led (scan_changed (read_all w i s 0 (take k words))) before
  pub low : (j : ℕ) → j < k → slice_index words j ≤ greatest_word
  pub moves : ListsChanges w row words listed listed'
