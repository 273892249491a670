use Rattle.page_crew.specs.Shared.{recorded_in, quit_in, gave_in, gave_up_in}
use Rattle.page_crew.proofs.Steady.{scrape_keeps, held_still}
use Rattle.page_crew.proofs.owner.PageCrew.scrape.Goals as goal

pub invariant_of-self : goal.invariant_of-self
invariant_of-self g c =
    held_still c.args.self.now c.scrape.new.self
    (scrape_keeps g.row.N g.row.C g.row.H g.row.G recorded_in quit_in gave_in gave_up_in c.args.self.now.page c.scrape.new.self
    c.scrape.result c.scrape.ensures)
