use Rattle.std.proofs.Common.{ap, sym, ◌∙◌}
use Rattle.register_rule.specs.Members.{newest}
use Rattle.scrape_history.specs.History.{Stored, answers_of}
use Rattle.scrape_history.proofs.Historic.{newest_held}
use Rattle.scrape_history.proofs.history.History.newest.Goals as goal

pub returns-in-Some : goal.returns-in-Some
returns-in-Some g c =
    ap (λ (h : Stored). newest (answers_of h.scrapes)) (sym c.self.view_is)
    ∙ newest_held c.self.inside.first c.in-Some._before c.self.inside.oldest c.self.inside.newest c.self.inside.later.items
    c.self.inside.increases.items c.in-Some.is
    c.self.invariant.all c.self.invariant.lead.to
