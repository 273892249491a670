use Rattle.std.proofs.Common.{subst, sym, arith}
use Rattle.ledger_core.specs.Tally.{AreMerged, AreBounded}
use Rattle.ledger_core.proofs.Bounded.{all_bounded}
use Rattle.ledger_core.proofs.Placing.{known_merged}
use Rattle.ledger_core.proofs.tally.Tally.ops.Goals as goal

pub returns-clause-merged : goal.returns-clause-merged
returns-clause-merged g c =
    let f = c.self.inside in
    subst AreMerged (sym c.as_slice.ensures.value) (known_merged f.list f.counters f.ups f.downs c.self.invariant.known)

pub returns-clause-bounded : goal.returns-clause-bounded
returns-clause-bounded g c =
    let f = c.self.inside in
    subst (AreBounded g.row.C g.row.H) (sym c.as_slice.ensures.value)
    (all_bounded g.row.C g.row.H g.row.G f.list f.sums (omega arith) c.self.invariant.within c.as_slice.ensures.small
    (known_merged f.list f.counters f.ups f.downs c.self.invariant.known) c.self.invariant.summed)
