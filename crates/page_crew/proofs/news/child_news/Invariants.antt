use Rattle.std.proofs.Common.{◌≡◌, length, All, Box}
use Rattle.std.specs.declared.alloc.Global.{Global}
use Rattle.page_crew.specs.News.{unboxed, IsChildNews}
use Rattle.page_crew.specs.declared.news.PageNews.{PageNews}
use Rattle.page_crew.proofs.news.child_news.Given as goal

abbrev pub invariant-loop-ring : goal.invariant-loop-ring
invariant-loop-ring g l = record {
  many : length l.news.items ≡ l._ring;
  says : All (λ (it : Box (PageNews g.row.N g.row.C g.row.H g.row.G) Global). IsChildNews l.family.number l.values (unboxed it))
      l.news.items;
}
