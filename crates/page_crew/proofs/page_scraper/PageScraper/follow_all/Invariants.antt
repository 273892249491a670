use Rattle.std.proofs.Common.{◌≡◌, ◌+◌, [], length}
use Rattle.rtrb.specs.Ring.{known_items}
use Rattle.page_crew.specs.Following.{page_in, held_in, news_in, HasFollowed}
use Rattle.page_crew.proofs.page_scraper.PageScraper.follow_all.Given as goal

abbrev pub invariant-loop-news : goal.invariant-loop-news
invariant-loop-news g l = record {
  followed : HasFollowed l.fn.self l.self (page_in l.self);
  none : held_in l.self ≡ [];
  left : length (known_items (news_in l.self)) + l._news ≡ l._news-end;
}
