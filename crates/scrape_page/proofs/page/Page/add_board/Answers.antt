use Rattle.std.proofs.Common.{◌≡◌, ◌<◌, ◌≤◌, List, [], ◌∷◌, ◌++◌, length, true, false, refl, sym, ap, subst, ◌∙◌, arith}
use Rattle.registry_state.specs.Kept.{RegistryView}
use Rattle.scrape_page.specs.Families.{PageView}
use Rattle.scrape_page.specs.Faults.{IsFresh}
use Rattle.scrape_page.specs.Kept.{IsHeldPage}
use Rattle.scrape_page.proofs.Boarded.{when_ok, held_board}
use Rattle.scrape_page.proofs.Facts.{one_fits}
use Rattle.scrape_page.proofs.page.Page.add_board.Goals as goal

pub is_fresh-requires : goal.is_fresh-requires
is_fresh-requires g c =
    one_fits (length c.deref.result.now) _ _
    (subst (λ (bs : List (RegistryView g.row.S.Denot)). 0 < length bs) (sym c.deref.ensures.value) c.self.invariant.page_is.some)
    c.deref.type_inv.1

pub push_reserved-requires : goal.push_reserved-requires
push_reserved-requires g c =
    let room = when_ok c.reserve.result _ c.if-is_err.ensures.value c.reserve.ensures.ok in omega (arith, room)

pub invariant_of-self : goal.invariant_of-self
invariant_of-self g c =
    subst (λ (bs : List (RegistryView g.row.S.Denot)). IsHeldPage (record {
      boards = bs;
      families = c.self.inside.families.items;
    })
    c.self.inside.order.items) (sym c.reserve.ensures.items) c.self.invariant

pub invariant_of-self-2 : goal.invariant_of-self-2
invariant_of-self-2 g c =
    let boards : List (RegistryView g.row.S.Denot) = c.self.inside.boards.items in
    let count = c.len-number.ensures in
    let under = c.if-number-ge-MAX_BOARDS.false in
    let few : length boards < 96 = omega (arith, count, under) in
    let fresh : IsFresh boards c.args.board =
    subst (λ (bs : List (RegistryView g.row.S.Denot)). IsFresh bs c.args.board) c.deref.ensures.value
    (c.is_fresh.ensures.0 c.if-not-is_fresh.false) in
    let after : c.push_reserved.new.self.items ≡ boards ++ c.args.board ∷ [] =
    c.push_reserved.ensures.items ∙ ap (λ l. l ++ c.args.board ∷ []) c.reserve.ensures.items in
    subst (λ (bs : List (RegistryView g.row.S.Denot)). IsHeldPage (record {
      boards = bs;
      families = c.self.inside.families.items;
    })
    c.self.inside.order.items) (sym after)
    (held_board c.args.board boards c.self.inside.families.items c.self.inside.order.items c.self.invariant few fresh)

pub returns-then-number-ge-MAX_BOARDS-clause-number : goal.returns-then-number-ge-MAX_BOARDS-clause-number
returns-then-number-ge-MAX_BOARDS-clause-number g c = tt

pub returns-then-number-ge-MAX_BOARDS-clause-added : goal.returns-then-number-ge-MAX_BOARDS-clause-added
returns-then-number-ge-MAX_BOARDS-clause-added g c = tt

pub returns-then-number-ge-MAX_BOARDS-clause-fresh : goal.returns-then-number-ge-MAX_BOARDS-clause-fresh
returns-then-number-ge-MAX_BOARDS-clause-fresh g c = tt

pub returns-then-number-ge-MAX_BOARDS-clause-fault : goal.returns-then-number-ge-MAX_BOARDS-clause-fault
returns-then-number-ge-MAX_BOARDS-clause-fault g c =
    let count = c.len-number.ensures in
    let over = c.if-number-ge-MAX_BOARDS.true in
    let many : 96 ≤ length c.self.inside.boards.items = omega (arith, count, over) in
    subst (λ (p : PageView g.row.S.Denot). 96 ≤ length p.boards) c.self.view_is many

pub returns-then-number-ge-MAX_BOARDS-clause-back : goal.returns-then-number-ge-MAX_BOARDS-clause-back
returns-then-number-ge-MAX_BOARDS-clause-back g c = refl

pub returns-then-number-ge-MAX_BOARDS-clause-unchanged : goal.returns-then-number-ge-MAX_BOARDS-clause-unchanged
returns-then-number-ge-MAX_BOARDS-clause-unchanged g c = refl

pub returns-then-not-is_fresh-clause-number : goal.returns-then-not-is_fresh-clause-number
returns-then-not-is_fresh-clause-number g c = tt

pub returns-then-not-is_fresh-clause-added : goal.returns-then-not-is_fresh-clause-added
returns-then-not-is_fresh-clause-added g c = tt

pub returns-then-not-is_fresh-clause-fresh : goal.returns-then-not-is_fresh-clause-fresh
returns-then-not-is_fresh-clause-fresh g c = tt

pub returns-then-not-is_fresh-clause-fault : goal.returns-then-not-is_fresh-clause-fault
returns-then-not-is_fresh-clause-fault g c =
    let held : c.self.inside.boards.items ≡ c.args.self.now.boards =
    ap (λ (p : PageView g.row.S.Denot). p.boards) c.self.view_is in
    let count = c.len-number.ensures in
    let under = c.if-number-ge-MAX_BOARDS.false in
    let few : length c.self.inside.boards.items < 96 = omega (arith, count, under) in (
      subst (λ (bs : List (RegistryView g.row.S.Denot)). length bs < 96) held few,
      (λ fresh. let both : false ≡ true = sym c.if-not-is_fresh.true
          ∙ c.is_fresh.ensures.1 (subst (λ (bs : List (RegistryView g.row.S.Denot)). IsFresh bs c.args.board)
          (sym (c.deref.ensures.value ∙ held)) fresh) in cc),
    )

pub returns-then-not-is_fresh-clause-back : goal.returns-then-not-is_fresh-clause-back
returns-then-not-is_fresh-clause-back g c = refl

pub returns-then-not-is_fresh-clause-unchanged : goal.returns-then-not-is_fresh-clause-unchanged
returns-then-not-is_fresh-clause-unchanged g c = refl

pub returns-then-is_err-clause-number : goal.returns-then-is_err-clause-number
returns-then-is_err-clause-number g c = tt

pub returns-then-is_err-clause-added : goal.returns-then-is_err-clause-added
returns-then-is_err-clause-added g c = tt

pub returns-then-is_err-clause-fresh : goal.returns-then-is_err-clause-fresh
returns-then-is_err-clause-fresh g c = tt

pub returns-then-is_err-clause-fault : goal.returns-then-is_err-clause-fault
returns-then-is_err-clause-fault g c =
    let held : c.self.inside.boards.items ≡ c.args.self.now.boards =
    ap (λ (p : PageView g.row.S.Denot). p.boards) c.self.view_is in
    let count = c.len-number.ensures in
    let under = c.if-number-ge-MAX_BOARDS.false in
    let few : length c.self.inside.boards.items < 96 = omega (arith, count, under) in (
      subst (λ (bs : List (RegistryView g.row.S.Denot)). length bs < 96) held few,
      subst (λ (bs : List (RegistryView g.row.S.Denot)). IsFresh bs c.args.board) (c.deref.ensures.value ∙ held)
          (c.is_fresh.ensures.0 c.if-not-is_fresh.false),
    )

pub returns-then-is_err-clause-back : goal.returns-then-is_err-clause-back
returns-then-is_err-clause-back g c = refl

pub returns-then-is_err-clause-unchanged : goal.returns-then-is_err-clause-unchanged
returns-then-is_err-clause-unchanged g c =
    let view : List (RegistryView g.row.S.Denot) → PageView g.row.S.Denot =
    λ bs. record { boards = bs; families = c.self.inside.families.items } in
    ap view c.reserve.ensures.items ∙ c.self.view_is

pub returns-clause-number : goal.returns-clause-number
returns-clause-number g c =
    c.len-number.ensures ∙ sym c.deref.ensures.len ∙ ap (λ (bs : List (RegistryView g.row.S.Denot)). length bs)
    c.deref.ensures.value
    ∙ ap (λ (p : PageView g.row.S.Denot). length p.boards) c.self.view_is

pub returns-clause-added : goal.returns-clause-added
returns-clause-added g c =
    let view : List (RegistryView g.row.S.Denot) → PageView g.row.S.Denot =
    λ bs. record { boards = bs; families = c.self.inside.families.items } in
    let more : PageView g.row.S.Denot → PageView g.row.S.Denot =
    λ p. record { boards = p.boards ++ c.args.board ∷ []; families = p.families } in
    ap view (c.push_reserved.ensures.items ∙ ap (λ l. l ++ c.args.board ∷ []) c.reserve.ensures.items) ∙ ap more c.self.view_is

pub returns-clause-fresh : goal.returns-clause-fresh
returns-clause-fresh g c =
    let held : c.self.inside.boards.items ≡ c.args.self.now.boards =
    ap (λ (p : PageView g.row.S.Denot). p.boards) c.self.view_is in
    let count = c.len-number.ensures in
    let under = c.if-number-ge-MAX_BOARDS.false in
    let few : length c.self.inside.boards.items < 96 = omega (arith, count, under) in (
      subst (λ (bs : List (RegistryView g.row.S.Denot)). length bs < 96) held few,
      subst (λ (bs : List (RegistryView g.row.S.Denot)). IsFresh bs c.args.board) (c.deref.ensures.value ∙ held)
          (c.is_fresh.ensures.0 c.if-not-is_fresh.false),
    )

pub returns-clause-fault : goal.returns-clause-fault
returns-clause-fault g c = tt

pub returns-clause-back : goal.returns-clause-back
returns-clause-back g c = tt

pub returns-clause-unchanged : goal.returns-clause-unchanged
returns-clause-unchanged g c = tt
