use Rattle.std.proofs.Common.{◌≡◌, All, ap, subst, ◌∙◌, arith, rules}
use Rattle.std.proofs.lemmas.List.{take_all}
use Rattle.std.proofs.lemmas.List.Elements.{All-more}
use Rattle.metric_desc.specs.Desc.{Descriptor, Clash}
use Rattle.scrape_page.specs.Families.{PageFamily}
use Rattle.scrape_page.proofs.naming.first_clash.Goals as goal

pub loop-number-preserved : goal.loop-number-preserved
loop-number-preserved c =
    let P : PageFamily → Type 0 = λ (family : PageFamily). ¬ (Clash family.desc c.args.desc.now) in
    let Q : Descriptor → Type 0 = λ desc. ¬ (Clash desc c.args.desc.now) in
    let is : c.deref.result.now ≡ c.index-families-number.result.desc = c.deref.ensures
    ∙ ap (λ (family : PageFamily). family.desc) c.family.view_is in
    let none : Clash c.deref.result.now c.args.desc.now → ⊥ = search rules in
    let here : P c.index-families-number.result = subst Q is none in
    All-more P _ _ c.index-families-number.result (omega arith) c.loop-number.invariant (subst P c.index-families-number.is here)

pub returns : goal.returns
returns c = subst (All (λ (family : PageFamily). ¬ (Clash family.desc c.args.desc.now))) (take_all _ _ (omega arith))
    c.loop-number.invariant
