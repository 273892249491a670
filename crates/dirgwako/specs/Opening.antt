-- What is taken out of a crew where it is opened, and what is handed out for it.
use Rattle.std.specs.Prelude.{◌≡◌, ℕ, [], ◌∷◌, ◌++◌, map, Vec, All}
use Rattle.std.specs.declared.alloc.Global.{Global}
use Rattle.register_rule.specs.Seats.{board_id}
use Rattle.register_rule.specs.declared.board.Board.{Board}
use Rattle.registry_state.specs.Faults.{IsWindow, IsNewFault}
use Rattle.registry_state.specs.Kept.{RegistryView}
use Rattle.registry_state.specs.Replay.{nothing}
use Rattle.snapshot_scan.specs.Readers.{IsReaderOf}
use Rattle.snapshot_scan.specs.Scanners.{reader_in}
use Rattle.snapshot_scan.specs.declared.scanner.Scanner.{Scanner}
use Rattle.snapshot_update.specs.Workers.{IsWorkerOf}
use Rattle.dirgwako.specs.Crews.{board_of, workers_of, readers_of, recorders_in, scanners_in}
use Rattle.dirgwako.specs.Recorders.{worker_in, IsOn}
use Rattle.dirgwako.specs.Scanning.{ScansOn}
use Rattle.dirgwako.specs.declared.crew.Crew.{Crew}
use Rattle.dirgwako.specs.declared.opening.Taken.{Taken}
use Rattle.dirgwako.specs.declared.opened.OpenFault.{OpenFault}
use Rattle.dirgwako.specs.declared.opened.OpenFault.TheVariants.{Opened, Registry}
use Rattle.dirgwako.specs.declared.recorder.Recorder.{Recorder}

module _ {N C H G : ℕ} where
  -- all that was taken is of this board
  pub record AreOf (b : Board N C H G) (t : Taken N C H G) : Type 0 where
    pub workers_own : All (IsWorkerOf b) t.workers.items
    pub readers_own : All (IsReaderOf b) t.readers.items
    pub last_own : IsReaderOf b t.last

  -- all workers were taken, and all readers, and nothing else has changed
  pub record IsTaken (window : ℕ) (old new : Crew N C H G) (t : Taken N C H G) : Type 0 where
    pub board : board_of new ≡ board_of old
    pub workers : t.workers.items ≡ workers_of old
    pub readers : readers_of old ≡ t.readers.items ++ t.last ∷ []
    pub of_board : AreOf (board_of old) t
    pub spent : readers_of new ≡ []
    pub good : IsWindow window

  -- nothing was taken
  pub record IsKept (old new : Crew N C H G) : Type 0 where
    pub board : board_of new ≡ board_of old
    pub workers : workers_of new ≡ workers_of old
    pub readers : readers_of new ≡ readers_of old

  -- a registry in which nothing was registered and no scrape is kept: it scans this board, has its id, and keeps so many scrapes
  pub record IsNewOn (b : Board N C H G) (window : ℕ) (r : RegistryView (Scanner N C H G)) : Type 0 where
    pub scans : ScansOn b r.source
    pub id : r.id ≡ board_id b
    pub window_is : r.window ≡ window
    pub journal : r.journal ≡ []
    pub state : r.state ≡ nothing

  -- what is handed out for what was taken: all on this board; the registry scans by the last reader, and the others are in order
  pub record IsHandedOut (b : Board N C H G) (t : Taken N C H G) (window : ℕ)
      (o : RegistryView (Scanner N C H G) × Vec (Recorder N C H G) Global × Vec (Scanner N C H G) Global) : Type 0 where
    pub registry : IsNewOn b window o.0
    pub last : reader_in o.0.source ≡ t.last
    pub boards : All (IsOn b) (recorders_in o)
    pub workers : map worker_in (recorders_in o) ≡ t.workers.items
    pub scanners : All (ScansOn b) (scanners_in o)
    pub readers : map reader_in (scanners_in o) ≡ t.readers.items

-- why nothing is handed out for it
abbrev pub IsNotHandedOut : (window : ℕ) → OpenFault → Type 0
IsNotHandedOut window Opened = ⊥
IsNotHandedOut window (Registry fault) = IsNewFault window fault
