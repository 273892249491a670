use Rattle.std.proofs.Common.{All, take, sym, subst, arith}
use Rattle.std.proofs.lemmas.List.{take_more, take_all}
use Rattle.std.proofs.lemmas.List.Elements.{All-push}
use Rattle.registry_state.specs.Kept.{RegistryView, IsKept}
use Rattle.page_crew.proofs.page_registry.look_at.Goals as goal

pub loop-board-preserved : goal.loop-board-preserved
loop-board-preserved g c =
    let P = λ (board : RegistryView g.row.S.Denot). IsKept g.row.N g.row.C g.row.H g.row.G (g.S.Source.recorded board.source)
    board.journal board.window board.state in
    let boards = c.args.boards.now in
    let at = c.loop-board.board-index in
    subst (All P) (sym (take_more boards at c.board-item.result (omega (arith, c.loop-board-test.true))))
    (All-push P (take at boards) _ c.loop-board.invariant (subst P c.board-item.is c.journal.ensures.kept))

pub returns : goal.returns
returns g c =
    let P = λ (board : RegistryView g.row.S.Denot). IsKept g.row.N g.row.C g.row.H g.row.G (g.S.Source.recorded board.source)
    board.journal board.window board.state in
    let boards = c.args.boards.now in
    subst (All P) (take_all c.loop-board.board-index boards (omega (arith, c.loop-board-test.false))) c.loop-board.invariant
