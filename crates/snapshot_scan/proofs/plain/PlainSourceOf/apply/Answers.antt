use Rattle.std.proofs.Common.{refl, ◌+◌}
use Rattle.snapshot_scan.proofs.Sourced.{plain_rises}
use Rattle.snapshot_scan.proofs.Publishing.{comes_more}
use Rattle.snapshot_scan.proofs.plain.PlainSourceOf.apply.Goals as goal

pub invariant_of-self-2-clause-below : goal.invariant_of-self-2-clause-below
invariant_of-self-2-clause-below g c =
    plain_rises g.row.N g.row.C g.row.H g.row.G c.args.self.now.count (c.args.self.now.count + 1) c.args.self.now.row
    c.try_apply.new.self c.args.ops.now
    c.args.self.now.seat.me.0.entries c.args.self.now.one c.in_default.ensures.ok refl c.args.self.now.below

pub invariant_of-self-2-clause-comes_to : goal.invariant_of-self-2-clause-comes_to
invariant_of-self-2-clause-comes_to g c =
    comes_more g.row.N g.row.C g.row.H g.row.G c.args.self.now.one c.args.self.now.count (c.args.self.now.count + 1)
    c.args.self.now.row c.try_apply.new.self c.args.ops.now
    c.args.self.now.seat.me.0.entries c.in_default.ensures.accepted c.in_default.ensures.ok refl c.args.self.now.comes_to
