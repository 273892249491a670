use Rattle.std.proofs.Common.{rules, refl}
use Rattle.snapshot_scan.proofs.Publishing.{comes_first}
use Rattle.snapshot_scan.proofs.plain.PlainSourceOf.new.Goals as goal

pub invariant_of-result-clause-comes_to : goal.invariant_of-result-clause-comes_to
invariant_of-result-clause-comes_to g c =
    comes_first g.row.N g.row.C g.row.H g.row.G c.requires.one 0 c.new.result c.in_ok-table.seat.me.0.entries refl
    c.new.ensures.zeros (search rules)
