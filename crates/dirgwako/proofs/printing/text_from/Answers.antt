use Rattle.std.proofs.Common.{Err, inl, subst}
use Rattle.scrape_http.specs.declared.source.NoScrape.{NoScrape}
use Rattle.scrape_server.specs.Again.{AsksAgain}
use Rattle.dirgwako.proofs.printing.text_from.Goals as goal

pub returns-in-Err-NoMemory-clause-fault : goal.returns-in-Err-NoMemory-clause-fault
returns-in-Err-NoMemory-clause-fault g c =
    inl (subst (λ (why : NoScrape). AsksAgain g.S.ScrapeFrom.gave g.S.ScrapeFrom.again c.args.source.now c.scrape_again.new.source
    (Err why))
    c.in-Err-NoMemory.field-0-is c.in-Err-NoMemory.ensures)

pub returns-clause-fault : goal.returns-clause-fault
returns-clause-fault g c =
    subst (λ (why : NoScrape). AsksAgain g.S.ScrapeFrom.gave g.S.ScrapeFrom.again c.args.source.now c.scrape_again.new.source (Err
    why))
    c.in-Err-Contended.field-0-is c.in-Err-Contended.ensures
