use Rattle.std.proofs.Common.{◌≡◌, ◌≢◌, ◌∙◌, List, Option, Some, All, IsSomeAnd, length, slice_get, refl, sym, inl, inr, ap}
use Rattle.std.proofs.Common.{subst, arith}
use Rattle.std.proofs.lemmas.List.{take_all}
use Rattle.std.proofs.lemmas.Option.{slice_get_read}
use Rattle.page_crew.specs.Owned.{page_of}
use Rattle.scrape_page.specs.Families.{PageView}
use Rattle.dirgwako_c.specs.Numbers.{Board, OneScanner}
use Rattle.dirgwako_c.proofs.page_boards.find.Goals as goal

pub returns : goal.returns
returns g c =
    let boards = (page_of c.args.owner.now).boards in let end = c.loop-place-test.false in
    let many = ap length c.boards-boards.ensures.boards in
    let page = ap (λ (p : PageView (OneScanner g.row.N g.row.C g.row.H g.row.G)). length p.boards) c.page.ensures in
    inr (
      refl,
      subst (λ (l : List (Board g.row.N g.row.C g.row.H g.row.G)). All (λ (board : Board g.row.N g.row.C g.row.H g.row.G).
          board.id ≢ c.args.id) l) (take_all c.loop-place.place boards (omega (arith, end, many, page)))
          c.loop-place.invariant.none,
      c.loop-place.invariant.same,
    )

pub returns-then-id : goal.returns-then-id
returns-then-id g c =
    let B = Board g.row.N g.row.C g.row.H g.row.G in
    let boards = c.boards-boards.result.now in
    let is = λ (board : B). board.id ≡ c.args.id in
    let at : slice_get boards c.loop-place.place ≡ Some c.index-boards-place.result =
    slice_get_read boards (length boards) c.loop-place.place c.index-boards-place.result refl c.loop-place-test.true
    c.index-boards-place.is in
    let found : IsSomeAnd (slice_get boards c.loop-place.place) is =
    subst (λ (o : Option B). IsSomeAnd o is) (sym at) (sym c.id.ensures ∙ c.if-id.true) in
    let same = ap (λ (p : PageView (OneScanner g.row.N g.row.C g.row.H g.row.G)). p.boards) c.page.ensures in
    inl (
      refl,
      subst (λ (l : List B). IsSomeAnd (slice_get l c.loop-place.place) is) (c.boards-boards.ensures.boards ∙ same)
          found,
    )
