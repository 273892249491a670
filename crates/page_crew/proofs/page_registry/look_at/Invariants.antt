use Rattle.std.proofs.Common.{All, take}
use Rattle.registry_state.specs.Kept.{RegistryView, IsKept}
use Rattle.page_crew.proofs.page_registry.look_at.Given as goal

-- the boards that were looked at keep it
abbrev pub invariant-loop-board : goal.invariant-loop-board
invariant-loop-board g l = All (λ (board : RegistryView g.row.S.Denot). IsKept g.row.N g.row.C g.row.H g.row.G
    (g.S.Source.recorded board.source)
    board.journal board.window board.state) (take l.board-index l.boards)
