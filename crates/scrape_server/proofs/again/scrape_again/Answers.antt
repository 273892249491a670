use Rattle.std.proofs.Common.{◌≡◌, ◌-◌, ◌+◌, suc, Err, subst, arith}
use Rattle.scrape_http.specs.declared.source.NoScrape.{NoScrape}
use Rattle.scrape_server.proofs.Askings.{again, at_last, at_once}
use Rattle.scrape_server.proofs.again.scrape_again.Goals as goal

pub returns-in-Err-NoMemory : goal.returns-in-Err-NoMemory
returns-in-Err-NoMemory g c =
    let given = subst (λ (why : NoScrape). g.S.ScrapeFrom.gave c.loop-again.source c.scrape.new.self (Err why))
    c.in-Err-NoMemory.field-0-is c.in-Err-NoMemory.ensures in
    c.loop-again.invariant _ _ (at_once g.S.ScrapeFrom.gave (g.S.ScrapeFrom.again - c.loop-again._again) _ _ _ tt given)

pub returns-in-Ok : goal.returns-in-Ok
returns-in-Ok g c = c.loop-again.invariant _ _
    (at_once g.S.ScrapeFrom.gave (g.S.ScrapeFrom.again - c.loop-again._again) _ _ _ tt c.in-Ok.ensures)

pub loop-again-preserved : goal.loop-again-preserved
loop-again-preserved g c after answer rest =
    let lt = c.loop-again-test.true in
    let times = c.again-again-end.ensures in
    let one : g.S.ScrapeFrom.again - c.loop-again._again ≡ suc (g.S.ScrapeFrom.again - (c.loop-again._again + 1)) =
    omega (arith, lt, times) in
    let given = subst (λ (why : NoScrape). g.S.ScrapeFrom.gave c.loop-again.source c.scrape.new.self (Err why))
    c.in-Err-Contended.field-0-is c.in-Err-Contended.ensures in
    c.loop-again.invariant after answer (again g.S.ScrapeFrom.gave _ _ one _ _ _ _ given rest)

pub returns : goal.returns
returns g c =
    let over = c.loop-again-test.false in
    let times = c.again-again-end.ensures in
    let none : g.S.ScrapeFrom.again - c.loop-again._again ≡ 0 = omega (arith, over, times) in
    c.loop-again.invariant _ _ (at_last g.S.ScrapeFrom.gave _ none _ _ _ c.scrape-2.ensures)
