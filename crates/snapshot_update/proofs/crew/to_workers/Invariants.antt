use Rattle.std.proofs.Common.{◌≡◌, ◌+◌, [], map, length, replicate, All}
use Rattle.std.specs.List.{range_with_len}
use Rattle.std.specs.Vec.Iter.{into_iter_items}
use Rattle.ledger_core.specs.Ops.{width}
use Rattle.segment_layout.specs.Layout.{depth}
use Rattle.register_rule.specs.Members.{workers_from, fresh_scan}
use Rattle.register_rule.specs.Seats.{worker_of, IsWorkSeatOf}
use Rattle.snapshot_update.specs.Workers.{index_of, lists_of, scan_by, IsWorkerOf}
use Rattle.snapshot_update.proofs.crew.to_workers.Given as goal

abbrev pub invariant-loop-seat : goal.invariant-loop-seat
invariant-loop-seat g l = record {
  of_board : All (IsWorkSeatOf l.board) (into_iter_items l.seat-iterator);
  count : length (into_iter_items l.seat-iterator) + l.index ≡ g.row.N;
  fresh : map worker_of (into_iter_items l.seat-iterator) ≡ workers_from g.row.N (width g.row.C g.row.H g.row.G)
      (depth g.row.N (width g.row.C g.row.H g.row.G)) l.index (length (into_iter_items l.seat-iterator));
  made : All (IsWorkerOf l.board) l.workers.items;
  all : map index_of l.workers.items ≡ range_with_len 0 l.index;
  new : map lists_of l.workers.items ≡ replicate l.index [];
  scans : map scan_by l.workers.items ≡ replicate l.index (fresh_scan g.row.N (width g.row.C g.row.H g.row.G));
}
