use Rattle.scrape_page.proofs.Roomy.{IsBest}
use Rattle.scrape_page.proofs.rooms.roomiest.Given as goal

abbrev pub invariant-loop-board : goal.invariant-loop-board
invariant-loop-board g l = IsBest g.row.C g.row.H g.row.G l.kind l.boards l.board l.best.board l.best.free
    l.best.families
