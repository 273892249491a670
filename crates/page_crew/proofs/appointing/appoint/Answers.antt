use Rattle.std.proofs.Common.{◌≡◌, ◌+◌, List, ◌∷◌, ◌++◌, [], length, All, sym, ap, subst, ◌∙◌, arith}
use Rattle.std.specs.Vec.Iter.{into_iter_items}
use Rattle.std.proofs.lemmas.List.{length_push}
use Rattle.std.proofs.lemmas.List.Elements.{All-nil}
use Rattle.std.proofs.lemmas.Option.{none-some}
use Rattle.registry_state.specs.Kept.{RegistryView}
use Rattle.registry_state.specs.Replay.{nothing}
use Rattle.rtrb.specs.Ring.{sent, received, known_free, IsPair}
use Rattle.page_crew.specs.News.{NewsRing, NewsFeed, IsOver}
use Rattle.page_crew.specs.Following.{news_in, BeginsOn, AreTuned}
use Rattle.page_crew.specs.declared.page_scraper.PageScraper.{PageScraper}
use Rattle.page_crew.specs.declared.shared_scanner.SharedScanner.{SharedScanner}
use Rattle.snapshot_update.proofs.Seating.{next_all, all_more}
use Rattle.page_crew.proofs.Telling.{tuned_more}
use Rattle.page_crew.proofs.appointing.appoint.Goals as goal

pub loop-board-init : goal.loop-board-init
loop-board-init g c =
    let V = RegistryView (SharedScanner g.row.N g.row.C g.row.H g.row.G) in
    let boards : List V = c.args.boards.items in
    let rest : List V = into_iter_items c.into_iter-board-iterator.result in
    let same : rest ≡ boards = c.into_iter-board-iterator.ensures.into_iter_gives.0 in
    let rings : c.in_ok-rings.rings.items ≡ [] = c.in_ok-rings.ensures.items in
    let scrapers : c.in_ok-scrapers.scrapers.items ≡ [] = c.in_ok-scrapers.ensures.items in
    record {
      left = let none = ap length rings in let all = ap length same in omega (arith, none, all);
      many = ap length rings ∙ sym (ap length scrapers);
      fresh = subst (λ (l : List V). All (λ (registry : V). registry.state ≡ nothing) l) (sym same) c.requires;
      untold = subst (λ (l : List (NewsRing g.row.N g.row.C g.row.H g.row.G)). All (λ p. sent p ≡ []) l) (sym rings)
          (All-nil (λ (p : NewsRing g.row.N g.row.C g.row.H g.row.G). sent p ≡ []));
      room = subst (λ (l : List (NewsRing g.row.N g.row.C g.row.H g.row.G)). All (λ p. known_free p ≡ 32991) l) (sym rings)
          (All-nil (λ (p : NewsRing g.row.N g.row.C g.row.H g.row.G). known_free p ≡ 32991));
      over = λ board id all. subst (λ (l : List V). All (IsOver board id) l) (sym same) all;
      begin = λ board id all. subst (λ (l : List (PageScraper g.row.N g.row.C g.row.H g.row.G)). All (BeginsOn board id) l) (sym
          scrapers)
          (All-nil (BeginsOn board id));
      pairs = subst (λ (l : List (NewsRing g.row.N g.row.C g.row.H g.row.G)). AreTuned l c.in_ok-scrapers.scrapers.items) (sym
          rings)
          (λ k p s at_p at_s. absurd (none-some p at_p));
    }

pub loop-board-preserved : goal.loop-board-preserved
loop-board-preserved g c =
    let V = RegistryView (SharedScanner g.row.N g.row.C g.row.H g.row.G) in
    let R = NewsRing g.row.N g.row.C g.row.H g.row.G in
    let P = PageScraper g.row.N g.row.C g.row.H g.row.G in
    let F = NewsFeed g.row.N g.row.C g.row.H g.row.G in
    let inv = c.loop-board.invariant in
    let before : List V = into_iter_items c.loop-board.board-iterator in
    let rest : List V = into_iter_items c.next.new.self in
    let step : before ≡ c.in-Some.board ∷ rest = c.in-Some.ensures.steps.0 in
    let rings : List R = c.loop-board.rings.items in
    let scrapers : List P = c.loop-board.scrapers.items in
    let ring : R = c.in_ok-ring.ring in
    let scraper : P = c.in_ok-new.field-0 in
    let rings_is : c.push.new.self.items ≡ rings ++ ring ∷ [] = c.in_ok-push.ensures.items in
    let scrapers_is : c.push-in-loop-board.new.self.items ≡ scrapers ++ scraper ∷ [] = c.in_ok-push-2.ensures.items in
    let pair : IsPair ring (news_in scraper) = subst (λ (m : F). IsPair ring m) (sym c.in_ok-new.ensures.news)
    c.in_ok-ring.ensures.pair in
    record {
      left = let next = ap length step in
          let longer = ap length rings_is in
          let push = length_push rings ring in
          let left = inv.left in
          omega (arith, next, longer, push, left);
      many = ap length rings_is ∙ length_push rings ring ∙ ap (λ n. n + 1) inv.many
          ∙ sym (ap length scrapers_is ∙ length_push scrapers scraper);
      fresh = (next_all (λ (registry : V). registry.state ≡ nothing) before rest c.in-Some.board step inv.fresh).1;
      untold = all_more (λ (p : R). sent p ≡ []) rings c.push.new.self.items ring rings_is inv.untold
          c.in_ok-ring.ensures.producer.0;
      room = all_more (λ (p : R). known_free p ≡ 32991) rings c.push.new.self.items ring rings_is inv.room
          c.in_ok-ring.ensures.producer.1;
      over = λ board id all. (next_all (IsOver board id) before rest c.in-Some.board step (inv.over board id all)).1;
      begin = λ board id all. all_more (BeginsOn board id) scrapers c.push-in-loop-board.new.self.items scraper scrapers_is
          (inv.begin board id all) (record {
            registry = c.in-Some.board;
            over = (next_all (IsOver board id) before rest c.in-Some.board step (inv.over board id all)).0;
            page = c.in_ok-new.ensures.page;
            taken = ap (λ (f : F). received f) c.in_ok-new.ensures.news ∙ c.in_ok-ring.ensures.consumer.0;
            held = c.in_ok-new.ensures.held;
          });
      pairs = subst (λ (l : List R). AreTuned l c.push-in-loop-board.new.self.items) (sym rings_is)
          (subst (λ (l : List P). AreTuned (rings ++ ring ∷ []) l) (sym scrapers_is)
          (tuned_more rings scrapers ring scraper inv.many inv.pairs pair));
    }

pub returns : goal.returns
returns g c = λ board id all.
    let inv = c.loop-board.invariant in
    let none = sym c.loop-board.board-iterator.rest.ok.0 ∙ c.in-None.ensures.steps.0 in
    let left = inv.left in
    let many = inv.many in
    record {
      rings_many = omega (arith, none, left);
      scrapers_many = omega (arith, none, left, many);
      untold = inv.untold;
      room = inv.room;
      begin = inv.begin board id all;
      pairs = inv.pairs;
    }
