use Rattle.std.proofs.Common.{rules, arith, ◌≡◌, length}
use Rattle.ledger_core.specs.Ops.{width}
use Rattle.ledger_core.proofs.Legal.{legal_buckets}
use Rattle.snapshot_scan.proofs.snapshot.Snapshot.hist.Goals as goal

pub returns-clause-legal : goal.returns-clause-legal
returns-clause-legal g c legal =
    let long : length c.args.self.now.totals ≡ width g.row.C g.row.H g.row.G = rw (← c.self.view_is) c.self.invariant.wide in
    let lt = c.requires in
    legal_buckets g.row.C g.row.H c.args.slot c.args.self.now.totals _ c.copy_from_slice.new.self c.requires
    (omega (arith, long, lt)) legal (search rules) (search rules)
