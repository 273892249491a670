-- What a registry keeps, whenever nobody is at work in it.
use Rattle.std.specs.Prelude.{◌≡◌, ℕ, ◌≤◌, List, ◌++◌, length}
use Rattle.register_rule.specs.declared.view.Answer.{Answer}
use Rattle.snapshot_scan.specs.Moments.{AreMoments}
use Rattle.registry_state.specs.Journal.{Entry, scrapes}
use Rattle.registry_state.specs.Replay.{State, Replays}
use Rattle.registry_state.specs.Faults.{IsWindow}

-- what contracts see of a registry: the id of its handles, how many scrapes it keeps, its source, its journal, and
-- its families and last scrape
pub record RegistryView (S : Type 0) : Type 0 where
  pub id : ℕ
  pub window : ℕ
  pub source : S
  pub journal : List Entry
  pub state : State

-- these are the last of what was recorded
pub record AreLast (kept recorded : List Answer) : Type 0 where
  pub older : List Answer
  pub is : recorded ≡ older ++ kept

-- the journal replays to the state; the kept scrapes are at most the window, and the last of what the source
-- recorded, in order; and they are moments of one history of publishes
pub record IsKept (n c h g : ℕ) (recorded : List Answer) (journal : List Entry) (window : ℕ) (state : State) : Type 0 where
  pub replays : Replays n c h g journal state
  pub room : IsWindow window
  pub few : length (scrapes journal) ≤ window
  pub newest : AreLast (scrapes journal) recorded
  pub moments : AreMoments n c h g (scrapes journal)
