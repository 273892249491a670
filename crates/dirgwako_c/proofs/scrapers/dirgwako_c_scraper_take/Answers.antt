use Rattle.std.proofs.Common.{rules, ◌≡◌, ◌++◌, ◌∷◌, [], inl, refl, sym, ap, ◌∙◌}
use Rattle.std.specs.Prelude.{Some}
use Rattle.dirgwako_c.specs.Registries.{scrapers_in}
use Rattle.dirgwako_c.proofs.Called.{called}
use Rattle.dirgwako_c.proofs.scrapers.dirgwako_c_scraper_take.Goals as goal

pub returns-in-Some-taken : goal.returns-in-Some-taken
returns-in-Some-taken c =
    let before = c.deref_mut.result.now in
    let after = record before { scrapers = c.take_last-taken.new.scrapers } in
    let gave : scrapers_in before ≡ scrapers_in after ++ c.in-Some-taken.made.value ∷ [] = search rules in
    called _ _ _ c.args.registry.now.value c.put.new.self.value before after
    (c.in-Some.ensures.taken ∙ ap Some (sym c.deref_mut.ensures.value)) c.put.ensures
    (refl, refl, inl (refl, (c.in-Some-taken.made.value, c.put-in-Some-taken.ensures, gave)))
