use Rattle.std.proofs.Common.{◌≡◌, ◌≢◌, All, false, true, refl, subst, sym, ap, ◌∙◌}
use Rattle.std.proofs.lemmas.List.{take_all}
use Rattle.std.proofs.lemmas.List.Elements.{All-more}
use Rattle.registry_state.specs.Kept.{RegistryView}
use Rattle.scrape_page.proofs.boards.is_new_id.Goals as goal

pub loop-board-preserved : goal.loop-board-preserved
loop-board-preserved g c =
    let P : RegistryView g.row.S.Denot → Type 0 = λ (board : RegistryView g.row.S.Denot). board.id ≢ c.args.id in
    let none : P c.board-item.result = λ same. c.if-id.false (c.id.ensures ∙ same) in
    All-more P c.args.boards.now c.loop-board.board-index c.board-item.result c.loop-board-test.true c.loop-board.invariant
    (subst P c.board-item.is none)

pub returns : goal.returns
returns g c =
    let all = subst (All (λ (board : RegistryView g.row.S.Denot). board.id ≢ c.args.id)) (take_all _ _ c.loop-board-test.false)
    c.loop-board.invariant in
    ((λ _. all), (λ _. refl))

pub returns-then-id : goal.returns-then-id
returns-then-id g c = (
  (λ (none : false ≡ true). absurd cc),
  (λ all. absurd (all c.loop-board.board-index c.board-item.result c.loop-board-test.true
      (ap (λ (board : RegistryView g.row.S.Denot). board.id) (sym c.board-item.is) ∙ sym c.id.ensures ∙ c.if-id.true))),
)
