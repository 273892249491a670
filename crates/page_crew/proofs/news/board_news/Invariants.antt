use Rattle.std.proofs.Common.{◌≡◌, ◌++◌, map}
use Rattle.std.specs.Vec.Iter.{into_iter_items}
use Rattle.page_crew.specs.News.{unboxed, of_board}
use Rattle.page_crew.proofs.news.board_news.Given as goal

abbrev pub invariant-loop-registry : goal.invariant-loop-registry
invariant-loop-registry g l =
    map unboxed l.news.items ++ map of_board (into_iter_items l.registry-iterator) ≡ map of_board l.fn.registries.items
