use Rattle.scrape_history.proofs.Historic.{history_less}
use Rattle.scrape_history.proofs.history.History.drop_one.Goals as goal

pub invariant_of-self : goal.invariant_of-self
invariant_of-self g c =
    history_less _ _ _ _ _ _ _ _ _ c.self.invariant c.in-Some.next c.pop_front.new.self.items _ _ c.in-Some.ensures.items
    c.raise.ensures c.drop_first.ensures.rest
