use Rattle.std.proofs.Common.{◌≢◌, All, take}
use Rattle.registry_state.specs.Kept.{RegistryView}
use Rattle.scrape_page.proofs.boards.is_new_id.Given as goal

abbrev pub invariant-loop-board : goal.invariant-loop-board
invariant-loop-board g l = All (λ (board : RegistryView g.row.S.Denot). board.id ≢ l.id) (take l.board-index l.boards)
