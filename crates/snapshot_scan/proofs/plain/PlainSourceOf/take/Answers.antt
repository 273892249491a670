use Rattle.std.proofs.Common.{rules}
use Rattle.ledger_core.specs.Ops.{width}
use Rattle.snapshot_scan.specs.Snapshots.{as_answer}
use Rattle.snapshot_scan.proofs.Sourced.{plain_newest}
use Rattle.snapshot_scan.proofs.Publishing.{comes_taken}
use Rattle.snapshot_scan.proofs.plain.PlainSourceOf.take.Goals as goal

pub invariant_of-self : goal.invariant_of-self
invariant_of-self g c =
    let newest = plain_newest g.row.N (width g.row.C g.row.H g.row.G) c.args.self.now.count c.args.self.now.row
    c.args.self.now.seat.me.0.entries c.load_as.new.seat.me.0.entries
    (as_answer c.set_row.new.self) (search rules) c.set_row.ensures.vector c.set_row.ensures.totals in
    let comes_to = comes_taken g.row.N g.row.C g.row.H g.row.G c.args.self.now.one c.args.self.now.count c.args.self.now.row
    c.args.self.now.seat.me.0.entries c.load_as.new.seat.me.0.entries
    (as_answer c.set_row.new.self) (search rules) c.set_row.ensures.vector c.set_row.ensures.totals c.args.self.now.comes_to in
    (search rules, (search rules, (search rules, (search rules, (search rules, (search rules, (comes_to, (newest, tt))))))))
