use Rattle.std.proofs.Common.{◌≡◌, ap, arith, length}
use Rattle.std.specs.VecDeque.{deque_len, deque_capacity}
use Rattle.scrape_history.specs.declared.history.History.TheInside.{Inside}
use Rattle.scrape_history.specs.History.{Stored, held_of}
use Rattle.scrape_history.proofs.Historic.{held_few, held_any}
use Rattle.scrape_history.proofs.history.History.make_room.Goals as goal
use Rattle.scrape_history.proofs.history.History.make_room.Goals.{then-len-window+in_ok-reserve, else-len-window}

pub returns-clause-places : goal.returns-clause-places
returns-clause-places g c =
    let si = c.if-len-window.self-inside in
    let few = held_few si.first si.oldest si.later.items c.reserve-2.new.self.items in
    let any = held_any si.first si.oldest si.later.items c.reserve-2.new.self.items si.increases.items in
    let all : deque_len si.later ≡ length si.later.items = si.later.ok.0 in
    let seen = ap (λ (h : Stored). length h.scrapes) c.self.view_is in
    let count = c.len.ensures.count in
    elim c.if-len-window.branch [
      | then-len-window+in_ok-reserve w ↦
          (let room = w.in_ok-reserve.ensures in
          let ok = room.ok in
          let capacity = ap (λ (s : Inside g.row.N g.row.C g.row.H g.row.G). deque_capacity s.later) w.self-inside-is in
          let len = ap (λ (s : Inside g.row.N g.row.C g.row.H g.row.G). deque_len s.later) w.self-inside-is in
          λ lt. omega (arith, few, all, ok, capacity, len))
      | else-len-window w ↦
          (let same = ap (λ (s : Inside g.row.N g.row.C g.row.H g.row.G). length
          (held_of s.first s.oldest s.later.items s.increases.items)) w.self-inside-is in
          let most = w.if-len-window.false in
          λ lt. absurd (omega (arith, lt, any, same, seen, count, most)))
    ]
