use Rattle.std.proofs.Common.{◌≢◌, All, subst, arith, rules}
use Rattle.std.proofs.lemmas.List.{take_all}
use Rattle.std.proofs.lemmas.List.Elements.{All-more}
use Rattle.scrape_page.specs.Families.{PageFamily}
use Rattle.scrape_page.proofs.naming.number_named.Goals as goal

pub loop-number-preserved : goal.loop-number-preserved
loop-number-preserved c =
    let P : PageFamily → Type 0 = λ (family : PageFamily). family.desc.name ≢ c.args.name.now in
    let none : P c.index-families-number.result = search rules in
    All-more P _ _ c.index-families-number.result (omega arith) c.loop-number.invariant (subst P c.index-families-number.is none)

pub returns : goal.returns
returns c = subst (All (λ (family : PageFamily). family.desc.name ≢ c.args.name.now)) (take_all _ _ (omega arith))
    c.loop-number.invariant
