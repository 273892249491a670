-- Boards that are made for a page, and why one is not.
use Rattle.std.specs.Prelude.{◌≡◌, ℕ, ◌<◌, ◌≤◌, List, [], map, replicate, All}
use Rattle.std.specs.List.{range_with_len}
use Rattle.std.specs.Arc.{arc_value}
use Rattle.ledger_core.specs.declared.op.Op.{Op}
use Rattle.register_rule.specs.Faults.{IsBoardSize}
use Rattle.register_rule.specs.Seats.{board_id}
use Rattle.snapshot_update.specs.Workers.{index_of, lists_of}
use Rattle.registry_state.specs.Faults.{IsWindow}
use Rattle.registry_state.specs.Kept.{RegistryView}
use Rattle.registry_state.specs.Replay.{nothing}
use Rattle.page_crew.specs.declared.fault.PageCrewFault.{PageCrewFault}
use Rattle.page_crew.specs.declared.fault.PageCrewFault.TheVariants as Opens
use Rattle.page_crew.specs.declared.fault.NoBoard.{NoBoard}
use Rattle.page_crew.specs.declared.fault.NoBoard.TheVariants as No
use Rattle.page_crew.specs.declared.shared_recorder.SharedRecorder.{SharedRecorder}
use Rattle.page_crew.specs.declared.shared_scanner.SharedScanner.{SharedScanner}
use Rattle.page_crew.specs.Shared.{board_in, worker_in}

module _ {N C H G : ℕ} where
  -- which worker a recorder counts as
  abbrev pub index_in : SharedRecorder N C H G → ℕ
  index_in r = index_of (worker_in r)

  -- all lists that it has published
  abbrev pub lists_in : SharedRecorder N C H G → List (List Op)
  lists_in r = lists_of (worker_in r)

  -- A registry of this id and window in which nothing was registered and no scrape is kept, over a board of this id; and a
  -- recorder of each worker of it, in order, that has published nothing
  pub record IsNewBoard (id window : ℕ) (registry : RegistryView (SharedScanner N C H G)) (recorders : List (SharedRecorder N C H
      G))
      : Type 0 where
    pub id_is : registry.id ≡ id
    pub window_is : registry.window ≡ window
    pub journal : registry.journal ≡ []
    pub state : registry.state ≡ nothing
    pub board : board_id (arc_value registry.source.board) ≡ id
    pub boards : All (λ r. board_in r ≡ arc_value registry.source.board) recorders
    pub workers : map index_in recorders ≡ range_with_len 0 N
    pub lists : map lists_in recorders ≡ replicate N []

-- why a page of so many boards gets no further one of such a geometry
abbrev pub IsNoBoard : (n c h g boards : ℕ) → NoBoard → Type 0
IsNoBoard n c h g boards No.TooManyBoards = 96 ≤ boards
IsNoBoard n c h g boards No.Geometry = (boards < 96) × ¬ (IsBoardSize n c h g 1)
IsNoBoard n c h g boards No.NoMemory = (boards < 96) × IsBoardSize n c h g 1

-- why a board of such a geometry is not made
abbrev pub IsNotMade : (n c h g readers : ℕ) → NoBoard → Type 0
IsNotMade n c h g readers No.TooManyBoards = ⊥
IsNotMade n c h g readers No.Geometry = ¬ (IsBoardSize n c h g readers)
IsNotMade n c h g readers No.NoMemory = IsBoardSize n c h g readers

-- the number of each reason
abbrev pub no_board_number : NoBoard → ℕ
no_board_number No.TooManyBoards = 44
no_board_number No.Geometry = 13
no_board_number No.NoMemory = 6

-- why there is no page of such a geometry that keeps so many scrapes: that many are not kept; or its first board is not made
abbrev pub IsPageCrewFault : (n c h g window : ℕ) → PageCrewFault → Type 0
IsPageCrewFault n c h g window Opens.BadWindow = ¬ (IsWindow window)
IsPageCrewFault n c h g window (Opens.Board why) = IsWindow window × IsNoBoard n c h g 0 why

-- why there is no page of such a geometry, with so many readers of each board, that keeps so many scrapes
abbrev pub IsNotOpened : (n c h g readers window : ℕ) → PageCrewFault → Type 0
IsNotOpened n c h g readers window Opens.BadWindow = ¬ (IsWindow window)
IsNotOpened n c h g readers window (Opens.Board why) = IsWindow window × IsNotMade n c h g readers why

-- the number of each reason
abbrev pub page_crew_fault_number : PageCrewFault → ℕ
page_crew_fault_number Opens.BadWindow = 31
page_crew_fault_number (Opens.Board why) = no_board_number why
