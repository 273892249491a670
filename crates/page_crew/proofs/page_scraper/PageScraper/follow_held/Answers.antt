use Rattle.std.proofs.Common.{◌≡◌, [], ◌∷◌, ap, sym, ◌∙◌}
use Rattle.std.specs.Prelude.{option_to_list}
use Rattle.page_crew.specs.Following.{held_in}
use Rattle.page_crew.proofs.Telling.{held_ok, held_err}
use Rattle.page_crew.proofs.page_scraper.PageScraper.follow_held.Goals as goal

pub returns-in-Some-clause-caught_up : goal.returns-in-Some-clause-caught_up
returns-in-Some-clause-caught_up g c =
    let held : held_in c.args.self.now ≡ c.in-Some.news ∷ [] = ap option_to_list (sym c.take.ensures.value ∙ c.in-Some.is) in
    held_ok c.args.self.now c.follow.new.self c.in-Some.news held c.follow.ensures.news c.follow.result c.follow.ensures.none
    c.follow.ensures.done

pub returns-in-Some-clause-behind : goal.returns-in-Some-clause-behind
returns-in-Some-clause-behind g c =
    let held : held_in c.args.self.now ≡ c.in-Some.news ∷ [] = ap option_to_list (sym c.take.ensures.value ∙ c.in-Some.is) in
    held_err c.args.self.now c.follow.new.self c.in-Some.news held c.follow.ensures.news c.follow.result c.follow.ensures.held
    c.follow.ensures.begun
