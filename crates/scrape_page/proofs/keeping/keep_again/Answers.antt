use Rattle.std.proofs.Common.{◌≡◌, ◌-◌, ◌+◌, suc, Err, subst, arith}
use Rattle.registry_state.specs.Kept.{RegistryView}
use Rattle.scrape_http.specs.declared.source.NoScrape.{NoScrape}
use Rattle.scrape_http.specs.declared.source.NoScrape.TheVariants.{NoMemory}
use Rattle.std.specs.Prelude.{Result, Ok}
use Rattle.expo_text.specs.Scraped.{Scraped}
use Rattle.scrape_server.specs.Scrapes.{Scrapes}
use Rattle.scrape_server.proofs.Askings.{again, at_once}
use Rattle.scrape_page.proofs.Unshown.{kept_last}
use Rattle.scrape_page.proofs.keeping.keep_again.Given.{Over}
use Rattle.scrape_page.proofs.keeping.keep_again.Goals as goal

abbrev Once : (g : Over) → RegistryView g.row.S.Denot → RegistryView g.row.S.Denot → Result Scraped NoScrape → Type 0
Once g = Scrapes g.row.N g.row.C g.row.H g.row.G g.S.Source.recorded g.S.Source.quit g.S.Source.gave g.S.Source.gave_up

pub returns-in-Err-NoMemory : goal.returns-in-Err-NoMemory
returns-in-Err-NoMemory g c =
    let given = subst (λ (why : NoScrape). Once g c.loop-again.board c.keep_once.new.board (Err why))
    c.in-Err-NoMemory.field-0-is c.in-Err-NoMemory.ensures in
    c.loop-again.invariant c.keep_once.new.board (Err NoMemory)
    (at_once (Once g) (3 - c.loop-again._again) c.loop-again.board c.keep_once.new.board (Err NoMemory) tt given)

pub returns-in-Ok : goal.returns-in-Ok
returns-in-Ok g c =
    let given = c.in-Ok.ensures in
    let again = c.loop-again.invariant c.keep_once.new.board (Ok given.0) in
    (given.0, again (at_once (Once g) (3 - c.loop-again._again) c.loop-again.board c.keep_once.new.board (Ok given.0) tt given.1))

pub loop-again-preserved : goal.loop-again-preserved
loop-again-preserved g c after answer rest =
    let lt = c.loop-again-test.true in
    let one : 3 - c.loop-again._again ≡ suc (3 - (c.loop-again._again + 1)) = omega (arith, lt) in
    let given = subst (λ (why : NoScrape). Once g c.loop-again.board c.keep_once.new.board (Err why))
    c.in-Err-Contended.field-0-is c.in-Err-Contended.ensures in
    c.loop-again.invariant after answer (again (Once g) _ _ one _ _ _ _ given rest)

pub returns : goal.returns
returns g c =
    let over = c.loop-again-test.false in
    let none : 3 - c.loop-again._again ≡ 0 = omega (arith, over) in
    kept_last (Once g) 3 c.args.board.now c.loop-again.board c.keep_once-2.new.board (3 - c.loop-again._again) none
    c.loop-again.invariant c.keep_once-2.result c.keep_once-2.ensures
