use Rattle.std.proofs.Common.{map, sym, ap, ◌∙◌}
use Rattle.std.specs.Vec.Iter.{into_iter_items}
use Rattle.page_crew.specs.News.{unboxed, of_board}
use Rattle.snapshot_update.proofs.Seating.{one_over}
use Rattle.page_crew.proofs.Telling.{nothing_left}
use Rattle.page_crew.proofs.news.board_news.Goals as goal

pub loop-registry-preserved : goal.loop-registry-preserved
loop-registry-preserved g c =
    one_over unboxed c.loop-registry.news.items c.push.new.self.items c.in_ok-new.field-0
    (map of_board (into_iter_items c.loop-registry.registry-iterator)) (map of_board (into_iter_items c.next.new.self))
    (of_board c.in-Some.registry) c.in_ok-push.ensures.items (ap (map of_board) c.in-Some.ensures.steps.0)
    c.in_ok-new.ensures.ok ∙ c.loop-registry.invariant

pub returns : goal.returns
returns g c = record {
  room = c.have_room.ensures.0 c.if-not-have_room.false;
  boards = nothing_left of_board (map unboxed c.loop-registry.news.items) (map of_board c.args.registries.items)
      (into_iter_items c.loop-registry.registry-iterator)
      (sym c.loop-registry.registry-iterator.rest.ok.0 ∙ c.in-None.ensures.steps.0) c.loop-registry.invariant;
}
