use Rattle.std.proofs.Common.{◌≡◌, List, [], ◌∷◌, ◌++◌, length, sym, ap, subst, ◌∙◌, arith, rules}
use Rattle.registry_state.specs.Kept.{RegistryView}
use Rattle.scrape_page.specs.Families.{PageFamily}
use Rattle.scrape_page.specs.Kept.{IsHeldPage}
use Rattle.scrape_page.proofs.Boarded.{held_new}
use Rattle.scrape_page.proofs.page.Page.new.Goals as goal

pub invariant_of-result : goal.invariant_of-result
invariant_of-result g c =
    let boards : c.push_reserved.new.self.items ≡ c.args.board ∷ [] =
    c.push_reserved.ensures.items ∙ ap (λ l. l ++ c.args.board ∷ []) c.in-Ok.ensures.items in
    let families : c.new.result.items ≡ [] = search rules in
    let order : c.new-2.result.items ≡ [] = search rules in
    let empty : length c.args.board.state.families ≡ 0 =
    let count = c.family_count.ensures in let none = c.if-family_count-gt0.false in omega (arith, count, none) in
    subst (λ (bs : List (RegistryView g.row.S.Denot)). IsHeldPage (record { boards = bs; families = c.new.result.items })
    c.new-2.result.items)
    (sym boards)
    (subst (λ (fs : List PageFamily). IsHeldPage (record { boards = c.args.board ∷ []; families = fs }) c.new-2.result.items) (sym
    families)
    (subst (IsHeldPage (record { boards = c.args.board ∷ []; families = [] })) (sym order) (held_new c.args.board empty)))
