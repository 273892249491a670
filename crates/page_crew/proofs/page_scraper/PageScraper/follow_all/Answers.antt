use Rattle.std.proofs.Common.{◌≡◌, [], ◌∷◌, length, refl, ap, subst, ◌∙◌, arith}
use Rattle.rtrb.specs.Ring.{known_items}
use Rattle.page_crew.specs.News.{NewsFeed, IsDone, IsBegun}
use Rattle.page_crew.specs.Following.{page_in}
use Rattle.page_crew.specs.declared.news.PageNews.{PageNews}
use Rattle.page_crew.specs.declared.page_scraper.PageScraper.{PageScraper}
use Rattle.page_crew.proofs.Telling.{looked_on, followed_then, behind_then, one_done, one_held, on_err, all_known}
use Rattle.page_crew.proofs.page_scraper.PageScraper.follow_all.Goals as goal

pub loop-news-init : goal.loop-news-init
loop-news-init g c =
    let old : PageScraper g.row.N g.row.C g.row.H g.row.G = c.args.self.now in
    let now : PageScraper g.row.N g.row.C g.row.H g.row.G = record {
      page = old.page;
      news = c.slots-news-end.new.self;
      held =
          old.held;
    } in
    record {
      followed = looked_on old now c.slots-news-end.ensures.looked refl refl;
      none = c.requires;
      left = let is = c.slots-news-end.ensures.value in omega (arith, is);
    }

pub pop_known-requires : goal.pop_known-requires
pop_known-requires g c =
    let left = c.loop-news.invariant.left in let more = c.loop-news-test.true in omega (arith, left, more)

pub follow-requires : goal.follow-requires
follow-requires g c = (omega arith, (omega arith, c.loop-news.invariant.none))

pub returns-in_err-follow-clause-behind : goal.returns-in_err-follow-clause-behind
returns-in_err-follow-clause-behind g c =
    let T = PageNews g.row.N g.row.C g.row.H g.row.G in
    let now : PageScraper g.row.N g.row.C g.row.H g.row.G = c.loop-news.self in
    let new : PageScraper g.row.N g.row.C g.row.H g.row.G = c.follow.new.self in
    let same : c.into_inner-news.result ≡ c.pop_known.result.value = c.into_inner-news.ensures in
    on_err c.from_residual.result (behind_then c.args.self.now now new c.loop-news.invariant.followed
    (one_held now new c.pop_known.result c.pop_known.new.self c.loop-news.invariant.none c.pop_known.ensures.received.0
    c.pop_known.ensures.ring c.in_err-follow.ensures.news (c.in_err-follow.ensures.held ∙ ap (λ (n : T). n ∷ []) same)
    (subst (λ (n : T). IsBegun n (page_in now) (page_in new)) same c.in_err-follow.ensures.begun)))

pub loop-news-preserved : goal.loop-news-preserved
loop-news-preserved g c =
    let T = PageNews g.row.N g.row.C g.row.H g.row.G in
    let F = NewsFeed g.row.N g.row.C g.row.H g.row.G in
    let now : PageScraper g.row.N g.row.C g.row.H g.row.G = c.loop-news.self in
    let new : PageScraper g.row.N g.row.C g.row.H g.row.G = c.follow.new.self in
    let same : c.into_inner-news.result ≡ c.pop_known.result.value = c.into_inner-news.ensures in
    record {
      followed = followed_then c.args.self.now now new (page_in new) c.loop-news.invariant.followed
          (one_done now new c.pop_known.result c.pop_known.new.self c.loop-news.invariant.none c.pop_known.ensures.received.0
          c.pop_known.ensures.ring c.in_ok-follow.ensures.news c.in_ok-follow.ensures.none
          (subst (λ (n : T). IsDone n (page_in now) (page_in new)) same c.in_ok-follow.ensures.done));
      none = c.in_ok-follow.ensures.none;
      left = let left = c.loop-news.invariant.left in
          let next = ap length c.pop_known.ensures.received.1 in
          let feed = ap (λ (f : F). length (known_items f)) c.in_ok-follow.ensures.news in
          omega (arith, left, next, feed);
    }

pub returns-clause-caught_up : goal.returns-clause-caught_up
returns-clause-caught_up g c =
    let left = c.loop-news.invariant.left in
    let end = c.loop-news-test.false in
    all_known c.args.self.now c.loop-news.self c.loop-news.invariant.followed c.loop-news.invariant.none (omega (
      arith,
      left,
      end,
    ))
