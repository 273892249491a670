use Rattle.std.proofs.Common.{◌≡◌, ◌++◌, map, All}
use Rattle.std.specs.Vec.Iter.{into_iter_items}
use Rattle.snapshot_scan.specs.Readers.{IsReaderOf}
use Rattle.snapshot_scan.specs.Scanners.{reader_in}
use Rattle.dirgwako.specs.Scanning.{ScansOn}
use Rattle.dirgwako.proofs.opening.all_scanners.Given as goal

abbrev pub invariant-loop-reader : goal.invariant-loop-reader
invariant-loop-reader g l = record {
  of_board : All (IsReaderOf l.board) (into_iter_items l.reader-iterator);
  boards : All (ScansOn l.board) l.scanners.items;
  readers : map reader_in l.scanners.items ++ into_iter_items l.reader-iterator ≡ l.fn.readers.items;
}
