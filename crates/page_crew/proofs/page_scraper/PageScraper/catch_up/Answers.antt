use Rattle.page_crew.proofs.Telling.{ok_more, err_more, caught_then, behind_then}
use Rattle.page_crew.proofs.page_scraper.PageScraper.catch_up.Goals as goal

pub returns-clause-caught_up : goal.returns-clause-caught_up
returns-clause-caught_up g c =
    ok_more c.follow_all.result
    (λ caught. caught_then c.args.self.now c.follow_held.new.self c.follow_all.new.self c.in_ok-follow_held.ensures.caught_up
    caught)
    c.follow_all.ensures.caught_up

pub returns-clause-behind : goal.returns-clause-behind
returns-clause-behind g c =
    err_more c.follow_all.result
    (λ behind. behind_then c.args.self.now c.follow_held.new.self c.follow_all.new.self c.in_ok-follow_held.ensures.caught_up
    behind)
    c.follow_all.ensures.behind
