use Rattle.page_crew.proofs.Alone.{opened_alone, alone}
use Rattle.page_crew.proofs.owner.PageCrew.new.Goals as goal

pub returns-in-Err-clause-fault : goal.returns-in-Err-clause-fault
returns-in-Err-clause-fault g c =
    opened_alone g.row.N g.row.C g.row.H g.row.G c.args.window c.in-Err.why c.in-Err.ensures.fault

pub returns-in-Ok-clause-alone : goal.returns-in-Ok-clause-alone
returns-in-Ok-clause-alone g c = alone c.in-Ok.crew _ c.in-Ok.ensures.scrapers
