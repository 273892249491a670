use Rattle.std.proofs.Common.{ap}
use Rattle.scrape_page.specs.Families.{PageView}
use Rattle.page_crew.specs.declared.shared_scanner.SharedScanner.{SharedScanner}
use Rattle.page_crew.proofs.Steady.{keeps_same, window_keeps, held_still, held_with}
use Rattle.page_crew.proofs.owner.PageCrew.set_window.Goals as goal

-- the window is refused
pub invariant_of-self : goal.invariant_of-self
invariant_of-self g c =
    let old = c.args.self.now in
    held_still old c.set_window.new.self (keeps_same old.page.boards c.set_window.new.self.boards
    (ap (λ (p : PageView (SharedScanner g.row.N g.row.C g.row.H g.row.G)). p.boards) c.in_err-set_window.ensures.unchanged))

-- it is set
pub invariant_of-self-2 : goal.invariant_of-self-2
invariant_of-self-2 g c =
    let old = c.args.self.now in
    held_with old c.set_window.new.self (window_keeps c.args.window old.page c.set_window.new.self c.in_ok-set_window.ensures.set)
    c.args.window old.news.items c.in_ok-set_window.ensures.window old.readers
