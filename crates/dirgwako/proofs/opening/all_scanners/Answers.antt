use Rattle.std.proofs.Common.{◌∙◌}
use Rattle.std.specs.Vec.Iter.{into_iter_items}
use Rattle.snapshot_scan.specs.Readers.{IsReaderOf}
use Rattle.snapshot_scan.specs.Scanners.{reader_in}
use Rattle.dirgwako.specs.Scanning.{ScansOn}
use Rattle.snapshot_update.proofs.Seating.{next_all, all_more, one_over}
use Rattle.dirgwako.proofs.opening.all_scanners.Goals as goal

pub loop-reader-preserved : goal.loop-reader-preserved
loop-reader-preserved g c =
    let inv = c.loop-reader.invariant in
    let step = c.in-Some.ensures.steps.0 in
    let rest = into_iter_items c.next.new.self in
    record {
      of_board = (next_all (IsReaderOf c.args.board.now)
          (into_iter_items c.loop-reader.reader-iterator) rest c.in-Some.reader step
          inv.of_board).1;
      boards = all_more (ScansOn c.args.board.now) c.loop-reader.scanners.items c.push.new.self.items c.new.result
          c.in_ok-push.ensures.items inv.boards c.new.ensures.board;
      readers = one_over reader_in c.loop-reader.scanners.items c.push.new.self.items c.new.result
          (into_iter_items c.loop-reader.reader-iterator) rest c.in-Some.reader c.in_ok-push.ensures.items step
          c.new.ensures.reader ∙ inv.readers;
    }
