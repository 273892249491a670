use Rattle.std.proofs.Common.{Err, inl, subst}
use Rattle.scrape_http.specs.declared.source.NoScrape.{NoScrape}
use Rattle.dirgwako_c.proofs.scraping.text_of.Goals as goal

pub returns-in-Err-NoMemory-clause-fault : goal.returns-in-Err-NoMemory-clause-fault
returns-in-Err-NoMemory-clause-fault g c =
    inl (subst (λ (why : NoScrape). g.S.ScrapeFrom.gave c.args.source.now c.scrape.new.self (Err why))
    c.in-Err-NoMemory.field-0-is c.in-Err-NoMemory.ensures)
