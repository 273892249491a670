use Rattle.std.proofs.Common.{◌≡◌, ◌+◌, ◌<◌, All, List, ◌∷◌, ◌++◌, [], length, ap, subst, sym, refl, ◌∙◌, arith}
use Rattle.std.specs.Arc.{arc_value}
use Rattle.std.proofs.lemmas.List.{length_push, length-map, with_items_is}
use Rattle.rtrb.specs.Ring.{known_free}
use Rattle.registry_state.specs.Kept.{RegistryView}
use Rattle.scrape_page.specs.Families.{PageView}
use Rattle.page_crew.specs.declared.shared_scanner.SharedScanner.{SharedScanner}
use Rattle.page_crew.specs.News.{NewsRing, IsOver, unboxed, of_board}
use Rattle.page_crew.specs.Opened.{IsNewBoard}
use Rattle.page_crew.specs.Boards.{AreNumbered}
use Rattle.page_crew.specs.Rings.{Ring, AreGiven, HaveRoom}
use Rattle.page_crew.proofs.Boarding.{numbered_more, never_refused, room_left}
use Rattle.page_crew.proofs.Telling.{board_said}
use Rattle.page_crew.proofs.owner.PageCrew.add_board.Goals as goal

pub invariant_of-self : goal.invariant_of-self
invariant_of-self g c =
    let V = RegistryView (SharedScanner g.row.N g.row.C g.row.H g.row.G) in
    let R = Ring g.row.N g.row.C g.row.H g.row.G in
    let old = c.args.self.now in
    let boards = old.page.boards in
    let board = c.in_ok-registry.field-0.registry in
    let id = c.in_ok-registry.ensures.new.id_is in
    let added : c.add_board.new.self.boards ≡ boards ++ board ∷ [] =
    ap (λ (p : PageView (SharedScanner g.row.N g.row.C g.row.H g.row.G)). p.boards) c.in-Ok-add_board.ensures.added in
    let given : AreGiven old.rings.items c.give.new.rings c.in_ok-registry.field-0.recorders.items =
    subst (λ (l : List R). AreGiven l c.give.new.rings c.in_ok-registry.field-0.recorders.items) c.deref_mut.ensures.value
    c.give.ensures in
    let items = with_items_is old.rings c.give.new.rings (c.give.ensures.many ∙ c.deref_mut.ensures.len) in
    record {
      numbered = subst (λ (l : List V). AreNumbered old.first l) (sym added) (numbered_more old.first boards old.numbered board
          (id ∙ ap (λ n. old.first + n) (ap length c.boards-number.ensures.boards)));
      low = old.low;
      kept = old.kept;
      size = old.size;
      readers = let told = with_items_is old.news c.tell.new.rings (c.tell.ensures.many ∙ c.deref_mut-in-Ok-add_board.ensures.len)
          in
          let few = old.readers in
          let same = ap length told in
          let many = c.tell.ensures.many in
          let lent = ap length c.deref_mut-in-Ok-add_board.ensures.value in
          omega (arith, few, same, many, lent);
      count = ap length items ∙ given.many ∙ old.count;
      room = subst (λ (l : List R). HaveRoom (length c.add_board.new.self.boards) l) (sym items)
          (room_left (length boards) (length c.add_board.new.self.boards) old.rings.items c.give.new.rings
          c.in_ok-registry.field-0.recorders.items
          (ap length added ∙ length_push boards board) given old.room);
    }

pub invariant_of-self-in-Err-add_board : goal.invariant_of-self-in-Err-add_board
invariant_of-self-in-Err-add_board g c =
    let P = PageView (SharedScanner g.row.N g.row.C g.row.H g.row.G) in
    let old = c.args.self.now in
    record {
      numbered = subst (λ (p : P). AreNumbered old.first p.boards) (sym c.in-Err.ensures.unchanged) old.numbered;
      low = old.low;
      kept = old.kept;
      size = old.size;
      readers = old.readers;
      count = old.count;
      room = subst (λ (p : P). HaveRoom (length p.boards) old.rings.items) (sym c.in-Err.ensures.unchanged) old.room;
    }

pub unreachable-requires : goal.unreachable-requires
unreachable-requires g c =
    let old = c.args.self.now in
    let few = c.if-number-ge-MOST.false in
    let same = ap length c.boards-number.ensures.boards in
    let made = c.in_ok-registry.ensures.new in
    never_refused old.first old.page.boards old.numbered c.in_ok-registry.field-0.registry (made.id_is ∙ ap (λ n. old.first + n)
    same)
    made.state (omega (arith, few, same)) c.in-Err.refused.fault c.in-Err.ensures.fault c.in-TooManyBoards.is

pub returns-in-Ok-add_board-clause-grown : goal.returns-in-Ok-add_board-clause-grown
returns-in-Ok-add_board-clause-grown g c =
    let R = Ring g.row.N g.row.C g.row.H g.row.G in
    let old = c.args.self.now in
    let made = c.in_ok-registry.ensures.new in
    let items = with_items_is old.rings c.give.new.rings (c.give.ensures.many ∙ c.deref_mut.ensures.len) in
    record {
      owner = (refl, refl);
      board = c.in_ok-registry.field-0.registry;
      recorders = c.in_ok-registry.field-0.recorders.items;
      is_new = subst (λ n. IsNewBoard (old.first + n) old.window c.in_ok-registry.field-0.registry
          c.in_ok-registry.field-0.recorders.items)
          (ap length c.boards-number.ensures.boards) made;
      page = c.in-Ok-add_board.ensures.added;
      given = subst (λ (l : List R). AreGiven old.rings.items l c.in_ok-registry.field-0.recorders.items) (sym items)
          (subst (λ (l : List R). AreGiven l c.give.new.rings c.in_ok-registry.field-0.recorders.items) c.deref_mut.ensures.value
          c.give.ensures);
    }

pub board_news-requires : goal.board_news-requires
board_news-requires g c =
    let others = c.in_ok-registry.ensures.others.0 in
    let many = c.len.ensures in
    let rings = ap length c.deref.ensures.value in
    let long = c.args.self.now.news.ok.0 in
    (omega arith, omega (arith, others, many, rings, long))

pub tell-requires : goal.tell-requires
tell-requires g c =
    let R = NewsRing g.row.N g.row.C g.row.H g.row.G in
    let old = c.args.self.now in
    let others = c.in_ok-registry.field-0.others.items in
    let same : c.deref.result.now ≡ c.deref_mut-in-Ok-add_board.result.now = c.deref.ensures.value ∙ sym
    c.deref_mut-in-Ok-add_board.ensures.value in (
      omega arith,
      (
        let told = length-map c.in-Ok.news.items unboxed in
            let boards = ap length c.in-Ok.ensures.boards in
            let each = length-map others of_board in
            let all = c.in_ok-registry.ensures.others.0 in
            let many = c.len.ensures in
            let rings = ap length c.deref_mut-in-Ok-add_board.ensures.value in
            let long = old.news.ok.0 in
            omega (arith, told, boards, each, all, many, rings, long),
        subst (λ (l : List R). All (λ (p : R). 0 < known_free p) l) same c.in-Ok.ensures.room,
      ),
    )

pub returns-in-Ok-add_board-clause-told : goal.returns-in-Ok-add_board-clause-told
returns-in-Ok-add_board-clause-told g c =
    let R = NewsRing g.row.N g.row.C g.row.H g.row.G in
    let V = RegistryView (SharedScanner g.row.N g.row.C g.row.H g.row.G) in
    let old = c.args.self.now in
    let board : V = c.in_ok-registry.field-0.registry in
    let items = with_items_is old.news c.tell.new.rings (c.tell.ensures.many ∙ c.deref_mut-in-Ok-add_board.ensures.len) in
    let id = old.first + length old.page.boards in
    let over : All (IsOver (arc_value board.source.board) id) c.in_ok-registry.field-0.others.items =
    subst (λ n. All (IsOver (arc_value board.source.board) (old.first + n)) c.in_ok-registry.field-0.others.items)
    (ap length c.boards-number.ensures.boards) c.in_ok-registry.ensures.others.1 in
    record {
      board = board;
      page = c.in-Ok-add_board.ensures.added;
      told = record {
        news = c.in-Ok.news.items;
        given = subst (λ (l : List R). AreGiven old.news.items l c.in-Ok.news.items) (sym items)
            (subst (λ (l : List R). AreGiven l c.tell.new.rings c.in-Ok.news.items) c.deref_mut-in-Ok-add_board.ensures.value
            c.tell.ensures);
        says = board_said (arc_value board.source.board) id c.in_ok-registry.field-0.others.items c.in-Ok.news.items
            c.in-Ok.ensures.boards
            over;
      };
    }
