use Rattle.std.proofs.Common.{◌≡◌, ap, arith, length}
use Rattle.std.specs.VecDeque.{deque_len}
use Rattle.scrape_history.specs.History.{Stored}
use Rattle.scrape_history.proofs.Historic.{held_some}
use Rattle.scrape_history.proofs.history.History.len.Goals as goal

pub returns-in-Some-clause-count : goal.returns-in-Some-clause-count
returns-in-Some-clause-count g c =
    let all : deque_len c.self.inside.later ≡ length c.self.inside.later.items = c.self.inside.later.ok.0 in
    let count = held_some c.self.inside.first c.in-Some._before c.self.inside.oldest c.self.inside.later.items
    c.self.inside.increases.items c.in-Some.is in
    let seen = ap (λ (h : Stored). length h.scrapes) c.self.view_is in
    let is = c.len.ensures in omega (arith, all, count, seen, is)
