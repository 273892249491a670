use Rattle.std.specs.Prelude.{◌≡◌, ◌-◌, ◌++◌, map, All}
use Rattle.ledger_core.specs.Ops.{width}
use Rattle.segment_layout.specs.Layout.{depth}
use Rattle.register_rule.specs.Members.{workers_from, readers_from}
use Rattle.register_rule.specs.Seats.{table_of, members_of, worker_of, IsWorkSeatOf}
use Rattle.register_rule.proofs.board.Board.part_workers.Given as goal

abbrev pub invariant-loop-i : goal.invariant-loop-i
invariant-loop-i g l = (table_of l.rest ≡ table_of l.initial.rest)
    × (members_of l.rest ≡ workers_from g.row.N (width g.row.C g.row.H g.row.G) (depth g.row.N (width g.row.C g.row.H g.row.G))
    l.i (g.row.N - l.i) ++ readers_from g.row.N (width g.row.C g.row.H g.row.G) 0 l.readers)
    × (map worker_of l.work.items ++ workers_from g.row.N (width g.row.C g.row.H g.row.G)
    (depth g.row.N (width g.row.C g.row.H g.row.G)) l.i (g.row.N - l.i) ≡ workers_from g.row.N (width g.row.C g.row.H g.row.G)
    (depth g.row.N (width g.row.C g.row.H g.row.G)) 0 g.row.N)
    × All (IsWorkSeatOf l.self) l.work.items
