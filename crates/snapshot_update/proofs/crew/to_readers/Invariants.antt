use Rattle.std.proofs.Common.{◌≡◌, ◌+◌, map, length, replicate, All}
use Rattle.std.specs.List.{range_with_len}
use Rattle.std.specs.Vec.Iter.{into_iter_items}
use Rattle.ledger_core.specs.Ops.{width}
use Rattle.register_rule.specs.Members.{readers_from, fresh_scan}
use Rattle.register_rule.specs.Seats.{reader_of, IsReadSeatOf}
use Rattle.snapshot_scan.specs.Order.{IsAlone}
use Rattle.snapshot_scan.specs.Readers.{IsReaderOf, scan_by, index_of as reader_index}
use Rattle.snapshot_update.proofs.crew.to_readers.Given as goal

abbrev pub invariant-loop-seat : goal.invariant-loop-seat
invariant-loop-seat g l = record {
  of_board : All (IsReadSeatOf l.board) (into_iter_items l.seat-iterator);
  count : length l.readers.items + length (into_iter_items l.seat-iterator) ≡ l.fn.all;
  fresh : map reader_of (into_iter_items l.seat-iterator) ≡ readers_from g.row.N (width g.row.C g.row.H g.row.G)
      (length l.readers.items) (length (into_iter_items l.seat-iterator));
  made : All (IsReaderOf l.board) l.readers.items;
  alone : All IsAlone l.readers.items;
  index : length l.readers.items ≡ l.index;
  order : map reader_index l.readers.items ≡ range_with_len 0 l.index;
  scans : map scan_by l.readers.items ≡ replicate l.index (fresh_scan g.row.N (width g.row.C g.row.H g.row.G));
}
