use Rattle.std.specs.Prelude.{◌≡◌, ◌-◌, ◌++◌, map, All}
use Rattle.ledger_core.specs.Ops.{width}
use Rattle.register_rule.specs.Members.{readers_from}
use Rattle.register_rule.specs.Seats.{table_of, members_of, reader_of, IsReadSeatOf}
use Rattle.register_rule.proofs.board.Board.part_readers.Given as goal

abbrev pub invariant-loop-i : goal.invariant-loop-i
invariant-loop-i g l = (table_of l.rest ≡ table_of l.initial.rest)
    × (members_of l.rest ≡ readers_from g.row.N (width g.row.C g.row.H g.row.G) l.i (l.readers - l.i))
    × (map reader_of l.read.items ++ readers_from g.row.N (width g.row.C g.row.H g.row.G) l.i (l.readers - l.i) ≡ readers_from
    g.row.N (width g.row.C g.row.H g.row.G) 0 l.readers)
    × All (IsReadSeatOf l.self) l.read.items
