use Rattle.std.proofs.Common.{◌≡◌, ℕ, ◌+◌, ◌*◌, ◌<◌, All, List, ◌∷◌, [], Some, length, slice_get, ap, subst, sym, refl, ◌∙◌}
use Rattle.std.proofs.Common.{arith, inl, inr}
use Rattle.std.proofs.lemmas.List.{length-map, with_items_is}
use Rattle.std.proofs.lemmas.List.FromFn.{length-range_with_len}
use Rattle.std.proofs.lemmas.Option.{none-some}
use Rattle.registry_state.specs.Kept.{RegistryView}
use Rattle.rtrb.specs.Ring.{known_free, sent}
use Rattle.scrape_page.specs.Families.{PageView}
use Rattle.page_crew.specs.declared.shared_recorder.SharedRecorder.{SharedRecorder}
use Rattle.page_crew.specs.declared.shared_scanner.SharedScanner.{SharedScanner}
use Rattle.std.specs.Arc.{arc_value}
use Rattle.page_crew.specs.Following.{AreScrapers}
use Rattle.page_crew.specs.Boards.{AreNumbered}
use Rattle.page_crew.specs.Opened.{index_in}
use Rattle.page_crew.specs.Rings.{Ring, AreGiven, ArePaired, HaveRoom}
use Rattle.page_crew.proofs.Boarding.{never_refused, numbered_more, room_left}
use Rattle.page_crew.proofs.Giving.{first_given, paired_given}
use Rattle.page_crew.proofs.owner.PageCrew.with_scrapers.Goals as goal

pub returns-then-window-lt1-clause-fault : goal.returns-then-window-lt1-clause-fault
returns-then-window-lt1-clause-fault g c = λ within. elim c.then-window-lt1.either [
  | inl low ↦ let least = within.0 in omega (arith, low, least)
  | inr high ↦ let over = high.1 in let most = within.1 in omega (arith, over, most)
]

pub returns-in-Err-clause-fault : goal.returns-in-Err-clause-fault
returns-in-Err-clause-fault g c = ((c.if-window-lt1.false, c.if-window-gt-MAX_WINDOW.false), c.in-Err.ensures.fault)

pub returns-then-scrapers-gt-MAX_SCRAPERS-clause-fault : goal.returns-then-scrapers-gt-MAX_SCRAPERS-clause-fault
returns-then-scrapers-gt-MAX_SCRAPERS-clause-fault g c = (
  (c.if-window-lt1.false, c.if-window-gt-MAX_WINDOW.false),
  λ size. let most = size.2 in let over = c.if-scrapers-gt-MAX_SCRAPERS.true in omega (arith, most, over),
)

pub returns-in_default-clause-fault : goal.returns-in_default-clause-fault
returns-in_default-clause-fault g c = ((c.if-window-lt1.false, c.if-window-gt-MAX_WINDOW.false), c.in-Ok.ensures.size)

pub returns-in_default-appoint-clause-fault : goal.returns-in_default-appoint-clause-fault
returns-in_default-appoint-clause-fault g c = ((c.if-window-lt1.false, c.if-window-gt-MAX_WINDOW.false), c.in-Ok.ensures.size)

pub returns-in-NoMemory-clause-fault : goal.returns-in-NoMemory-clause-fault
returns-in-NoMemory-clause-fault g c = ((c.if-window-lt1.false, c.if-window-gt-MAX_WINDOW.false), c.in-Ok.ensures.size)

pub unreachable-requires : goal.unreachable-requires
unreachable-requires g c =
    let V = RegistryView (SharedScanner g.row.N g.row.C g.row.H g.row.G) in
    let first = 128 * c.args.id in
    let board = c.in-Ok.made.registry in
    let none : AreNumbered first [] = λ k (b : V) at. absurd (none-some b at) in
    let id : board.id ≡ first + 0 = let is = c.in-Ok.ensures.new.id_is in omega (arith, is) in
    never_refused first [] none board id c.in-Ok.ensures.new.state (omega arith) c.in-Err-new.refused.fault
    c.in-Err-new.ensures.fault
    c.in-TooManyBoards.is

pub new_board-requires : goal.new_board-requires
new_board-requires g c =
    let few = c.if-scrapers-gt-MAX_SCRAPERS.false in
    (omega arith, ((c.if-window-lt1.false, c.if-window-gt-MAX_WINDOW.false), omega (arith, few)))

pub appoint-requires : goal.appoint-requires
appoint-requires g c = (omega arith, (omega arith, (omega arith, λ k d within. (c.in-Ok.ensures.others.1 k d within).state)))

pub open_rings-requires : goal.open_rings-requires
open_rings-requires g c = let fits = c.ranges.id.fits in (omega arith, omega (arith, fits))

pub give-requires : goal.give-requires
give-requires g c =
    let R = Ring g.row.N g.row.C g.row.H g.row.G in
    let opened = c.in-Ok-open_rings.ensures in
    let theirs = c.in-Ok.made.recorders.items in
    let same : c.deref_mut.result.now ≡ c.in-Ok-open_rings.field-0.rings.items = c.deref_mut.ensures.value in
    let all : length theirs ≡ g.row.N =
    sym (length-map theirs index_in) ∙ (ap length c.in-Ok.ensures.new.workers ∙ length-range_with_len 0 g.row.N) in
    record {
      many = all ∙ (sym opened.rings_many ∙ sym (ap length same));
      room = subst (λ (l : List R). All (λ (p : R). 0 < known_free p) l) (sym same)
          (λ k (d : R) within. let is = (opened.empty k d within).1 in omega (arith, is));
    }

pub invariant_of-crew : goal.invariant_of-crew
invariant_of-crew g c =
    let V = RegistryView (SharedScanner g.row.N g.row.C g.row.H g.row.G) in
    let R = Ring g.row.N g.row.C g.row.H g.row.G in
    let first = 128 * c.args.id in
    let rings = c.in-Ok-open_rings.field-0.rings in
    let opened = c.in-Ok-open_rings.ensures in
    let board = c.in-Ok.made.registry in
    let boards : c.in-Ok-new.page.boards ≡ board ∷ [] =
    ap (λ (p : PageView (SharedScanner g.row.N g.row.C g.row.H g.row.G)). p.boards) c.in-Ok-new.ensures.made in
    let id : board.id ≡ first + 0 = let is = c.in-Ok.ensures.new.id_is in omega (arith, is) in
    let given : AreGiven rings.items c.give.new.rings c.in-Ok.made.recorders.items =
    subst (λ (l : List R). AreGiven l c.give.new.rings c.in-Ok.made.recorders.items) c.deref_mut.ensures.value c.give.ensures in
    let items = with_items_is rings c.give.new.rings (c.give.ensures.many ∙ c.deref_mut.ensures.len) in
    let none : AreNumbered first [] = λ k (b : V) at. absurd (none-some b at) in
    let free : HaveRoom 0 rings.items = λ k (d : R) within. let is = (opened.empty k d within).1 in omega (arith, is) in
    let one : length c.in-Ok-new.page.boards ≡ 0 + 1 = ap length boards in
    record {
      numbered = subst (λ (l : List V). AreNumbered first l) (sym boards) (numbered_more first [] none board id);
      low = let fits = c.ranges.id.fits in omega (arith, fits);
      kept = let low = c.if-window-lt1.false in let high = c.if-window-gt-MAX_WINDOW.false in
          (omega (arith, low), omega (arith, high));
      count = ap length items ∙ given.many ∙ opened.rings_many;
      room = subst (λ (l : List R). HaveRoom (length c.in-Ok-new.page.boards) l) (sym items)
          (room_left 0 (length c.in-Ok-new.page.boards) rings.items c.give.new.rings c.in-Ok.made.recorders.items one given free);
      size = (c.in-Ok.ensures.size.0, omega arith, omega arith);
      readers = let many = (c.in-Ok-appoint.ensures (arc_value board.source.board) first c.in-Ok.ensures.others.1).rings_many in
          let all = c.in-Ok.ensures.others.0 in
          let few = c.if-scrapers-gt-MAX_SCRAPERS.false in
          omega (arith, many, all, few);
    }

pub returns-clause-opened : goal.returns-clause-opened
returns-clause-opened g c =
    let R = Ring g.row.N g.row.C g.row.H g.row.G in
    let rings = c.in-Ok-open_rings.field-0.rings in
    let opened = c.in-Ok-open_rings.ensures in
    let theirs = c.in-Ok.made.recorders.items in
    let given : AreGiven rings.items c.give.new.rings theirs =
    subst (λ (l : List R). AreGiven l c.give.new.rings theirs) c.deref_mut.ensures.value c.give.ensures in
    let items = with_items_is rings c.give.new.rings (c.give.ensures.many ∙ c.deref_mut.ensures.len) in
    record {
      first_is = refl;
      window_is = refl;
      board = c.in-Ok.made.registry;
      theirs = theirs;
      is_new = c.in-Ok.ensures.new;
      page = c.in-Ok-new.ensures.made;
      rings = ap length items ∙ given.many ∙ opened.rings_many;
      given = subst (λ (l : List R). (k : ℕ) (p : R) (r : SharedRecorder g.row.N g.row.C g.row.H g.row.G) → slice_get l k ≡ Some p
          → slice_get theirs k ≡ Some r → sent p ≡ r ∷ []) (sym items)
          (first_given rings.items c.give.new.rings theirs given opened.empty);
      many = opened.recorders_many;
      none = opened.none;
      pairs = subst (λ (l : List R). ArePaired l c.in-Ok-open_rings.field-0.recorders.items) (sym items)
          (paired_given rings.items c.give.new.rings theirs c.in-Ok-open_rings.field-0.recorders.items given opened.pairs);
    }

pub returns-clause-scrapers : goal.returns-clause-scrapers
returns-clause-scrapers g c =
    let P = PageView (SharedScanner g.row.N g.row.C g.row.H g.row.G) in
    let board = c.in-Ok.made.registry in
    record {
      board = board;
      first = ap (λ (p : P). slice_get p.boards 0) c.in-Ok-new.ensures.made;
      scrapers = subst (λ n. AreScrapers n (arc_value board.source.board) (128 * c.args.id) c.in-Ok-appoint.field-0.rings.items
          c.in-Ok-appoint.field-0.scrapers.items) c.in-Ok.ensures.others.0
          (c.in-Ok-appoint.ensures (arc_value board.source.board) (128 * c.args.id) c.in-Ok.ensures.others.1);
    }
