use Rattle.std.proofs.Common.{◌≡◌, ◌++◌, map, take, drop}
use Rattle.scrape_page.specs.Windows.{with_window}
use Rattle.scrape_page.proofs.windows.set_each.Given as goal

-- those before this place keep so many, and those from it on are as they were
abbrev pub invariant-loop-at : goal.invariant-loop-at
invariant-loop-at g l = l.boards ≡ map (with_window l.window) (take l.at l.fn.boards) ++ drop l.at l.fn.boards
