use Rattle.std.proofs.Common.{sym, subst}
use Rattle.snapshot_core.specs.Sized.{IsSized}
use Rattle.snapshot_core.proofs.Sized.{sized_second}
use Rattle.snapshot_core.proofs.Told.{after_second}
use Rattle.snapshot_core.proofs.scan_state.ScanState.second.Goals as goal

pub invariant_of-self : goal.invariant_of-self
invariant_of-self c = record {
  sized = subst IsSized (sym c.second.ensures)
      (sized_second c.args.number c.args.self.now.scan c.args.self.now.scan.next c.args.self.now.sized);
}

pub returns-clause-told : goal.returns-clause-told
returns-clause-told c = λ reads r told next number. after_second c.args.number c.args.self.now.scan _ reads r
    c.args.self.now.sized c.second.ensures told next number
