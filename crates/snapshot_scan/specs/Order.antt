-- How the snapshots of two readers compare.
use Rattle.std.specs.Prelude.{◌≡◌, ◌≢◌, ℕ, List, []}
use Rattle.std.specs.declared.cmp.Ordering.{Ordering}
use Rattle.std.specs.declared.cmp.Ordering.TheVariants.{Less, Equal, Greater}
use mathlib.Core.Option.{some}
use lib.ListN.{get_elem?}
use Rattle.register_rule.specs.History.{Below}
use Rattle.register_rule.specs.declared.view.Answer.{Answer}
use Rattle.snapshot_scan.specs.declared.reader.Reader.{Reader}
use Rattle.snapshot_scan.specs.Lent.{behind}
use Rattle.snapshot_scan.specs.Readers.{members_with, scan_by}

-- the vectors, place by place: u is above v at no place and another one, the same, or above it
abbrev pub IsOrder : (u v : List ℕ) → Ordering → Type 0
IsOrder u v Less = Below u v × (u ≢ v)
IsOrder u v Equal = u ≡ v
IsOrder u v Greater = Below v u × (u ≢ v)

module _ {N C H G : ℕ} where
  -- a scan of this reader recorded it
  abbrev pub HasRecorded : Reader N C H G → Answer → Type 0
  HasRecorded r a = (q : ℕ) × (get_elem? (scan_by r).recorded q ≡ some a)

  -- no worker is lent to the reader
  abbrev pub IsAlone : Reader N C H G → Type 0
  IsAlone r = behind (members_with r) ≡ []
