-- What a clause reads of a crew.
use Rattle.std.specs.Prelude.{◌≡◌, ◌≢◌, ℕ, List, [], Vec}
use Rattle.std.specs.declared.alloc.Global.{Global}
use Rattle.register_rule.specs.declared.board.Board.{Board}
use Rattle.registry_state.specs.Faults.{IsNewFault, new_fault_number}
use Rattle.snapshot_scan.specs.declared.reader.Reader.{Reader}
use Rattle.snapshot_scan.specs.declared.scanner.Scanner.{Scanner}
use Rattle.snapshot_update.specs.declared.worker.Worker.{Worker}
use Rattle.dirgwako.specs.declared.crew.Crew.{Crew}
use Rattle.dirgwako.specs.declared.opened.OpenFault.{OpenFault}
use Rattle.dirgwako.specs.declared.recorder.Recorder.{Recorder}
use Rattle.dirgwako.specs.declared.opened.OpenFault.TheVariants.{Opened, Registry}

module _ {N C H G : ℕ} where
  -- its board
  abbrev pub board_of : Crew N C H G → Board N C H G
  board_of c = c.board

  -- its workers that are not handed out, in order
  abbrev pub workers_of : Crew N C H G → List (Worker N C H G)
  workers_of c = c.workers.items

  -- its readers that are not handed out, in order
  abbrev pub readers_of : Crew N C H G → List (Reader N C H G)
  readers_of c = c.readers.items

  -- what an open crew hands out beside the registry: its recorders, in order
  abbrev pub recorders_in : {R : Type 0} → R × Vec (Recorder N C H G) Global × Vec (Scanner N C H G) Global → List (Recorder N C H
      G)
  recorders_in o = o.1.items

  -- and its scanners
  abbrev pub scanners_in : {R : Type 0} → R × Vec (Recorder N C H G) Global × Vec (Scanner N C H G) Global → List (Scanner N C H
      G)
  scanners_in o = o.2.items

  -- why a crew is not opened
  abbrev pub IsOpenFault : Crew N C H G → (window : ℕ) → OpenFault → Type 0
  IsOpenFault c window Opened = readers_of c ≡ []
  IsOpenFault c window (Registry fault) = (readers_of c ≢ []) × IsNewFault window fault

-- the number of each fault
abbrev pub open_fault_number : OpenFault → ℕ
open_fault_number Opened = 32
open_fault_number (Registry fault) = new_fault_number fault
