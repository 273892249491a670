use Rattle.std.proofs.Common.{◌≡◌, ◌+◌, length, All}
use Rattle.std.specs.Arc.{arc_value}
use Rattle.std.specs.Vec.Iter.{into_iter_items}
use Rattle.snapshot_scan.specs.Readers.{IsReaderOf}
use Rattle.page_crew.specs.News.{IsOver}
use Rattle.page_crew.proofs.opening.others_on.Given as goal

abbrev pub invariant-loop-reader : goal.invariant-loop-reader
invariant-loop-reader g l = record {
  of_board : All (IsReaderOf (arc_value l.board)) (into_iter_items l.reader-iterator);
  over : All (IsOver (arc_value l.board) l.id) l.others.items;
  many : length l.others.items + length (into_iter_items l.reader-iterator) ≡ length l.fn.readers.items;
}
