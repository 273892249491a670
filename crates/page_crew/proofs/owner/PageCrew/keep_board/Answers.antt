use Rattle.scrape_page.specs.Scraping.{BoardAloneScrapes}
use Rattle.scrape_page.proofs.Unshown.{from_unshown}
use Rattle.page_crew.specs.Shared.{recorded_in, quit_in, gave_in, gave_up_in}
use Rattle.page_crew.proofs.Steady.{KeepsIds, board_keeps, held_still}
use Rattle.page_crew.proofs.owner.PageCrew.keep_board.Goals as goal

pub invariant_of-self : goal.invariant_of-self
invariant_of-self g c =
    let old = c.args.self.now.page in
    held_still c.args.self.now c.keep_board.new.self
    (from_unshown (BoardAloneScrapes g.row.N g.row.C g.row.H g.row.G recorded_in quit_in gave_in gave_up_in c.args.number) old
    c.keep_board.new.self (KeepsIds old.boards c.keep_board.new.self.boards)
    (board_keeps g.row.N g.row.C g.row.H g.row.G recorded_in quit_in gave_in gave_up_in c.args.number old c.keep_board.new.self)
    c.keep_board.result c.keep_board.ensures)
