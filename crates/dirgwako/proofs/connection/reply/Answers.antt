use Rattle.scrape_server.specs.declared.again.AskedAgain.{AskedAgain}
use Rattle.dirgwako.proofs.Answering.{replied, not_served, no_reply}
use Rattle.dirgwako.proofs.connection.reply.Goals as goal

pub returns-in-Ok-clause-answers : goal.returns-in-Ok-clause-answers
returns-in-Ok-clause-answers g c =
    replied (λ (p : AskedAgain g.row.S.Denot). p.source) g.S.ScrapeFrom.gave g.S.ScrapeFrom.again _ _ _ _ _ _ _ _ _
    (c.in-Ok.ensures.served c.in-Ok.ensures.read_failed)

pub returns-in-Err-clause-answers : goal.returns-in-Err-clause-answers
returns-in-Err-clause-answers g c =
    not_served (λ (p : AskedAgain g.row.S.Denot). p.source) g.S.ScrapeFrom.gave g.S.ScrapeFrom.again _ _ _ _ _ _ _ _ _ _
    c.in-Err.ensures.read_failed
    c.in-Err.ensures.served c.in-Err.ensures.unserved

pub returns-in-Err-clause-fault : goal.returns-in-Err-clause-fault
returns-in-Err-clause-fault g c = λ _.
    no_reply _ _ _ _ _ _ _ _ _ _ _ _ c.in-Err.ensures.read_failed c.in-Err.ensures.write_failed c.in-Err.ensures.served

pub returns-in-Err-clause-none : goal.returns-in-Err-clause-none
returns-in-Err-clause-none g c = λ _. (_, c.in-Err.ensures.served, c.in-Err.ensures.unserved)
