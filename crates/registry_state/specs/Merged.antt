-- How a journal is kept: all changes in order, and the kept scrapes, each with how many changes were made before it.
use Rattle.std.specs.Prelude.{ℕ, ◌-◌, ◌≤◌, List, [], ◌∷◌, ◌++◌, map, take, drop}
use Rattle.snapshot_scan.specs.Snapshots.{Taken, as_answer}
use Rattle.registry_state.specs.Journal.{RegistryChange, Entry, Changed, Scraped, Registered, ChildMade}
use Rattle.std.specs.Arc.{arc_value}
use Rattle.registry_state.specs.declared.noted_change.NotedChange.{NotedChange}

-- the journal from the change at `from` on
abbrev pub merged : (changes : List RegistryChange) → (from : ℕ) → (kept : List (Taken × ℕ)) → List Entry
merged changes from [] = map Changed (drop from changes)
merged changes from (scrape ∷ kept) =
    map Changed (take (scrape.1 - from) (drop from changes)) ++ Scraped (as_answer scrape.0) ∷ merged changes scrape.1 kept

-- the kept scrapes stand in order, after the change at `from` and within all
abbrev pub AreInOrder : (all from : ℕ) → (kept : List (Taken × ℕ)) → Type 0
AreInOrder all from [] = from ≤ all
AreInOrder all from (scrape ∷ kept) = (from ≤ scrape.1) × AreInOrder all scrape.1 kept

-- the change that is kept so
abbrev pub change_of : NotedChange → RegistryChange
change_of (NotedChange.Registered desc) = Registered (arc_value desc)
change_of (NotedChange.ChildMade family values slot) = ChildMade family ((arc_value values).items) slot
