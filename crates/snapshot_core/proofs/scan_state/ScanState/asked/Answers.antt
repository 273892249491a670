use Rattle.std.proofs.Common.{sym, subst, option_map}
use Rattle.snapshot_core.specs.Sized.{IsSized}
use Rattle.snapshot_core.proofs.Sized.{sized_asked}
use Rattle.snapshot_core.proofs.Told.{after_asked}
use Rattle.snapshot_core.proofs.scan_state.ScanState.asked.Goals as goal

pub invariant_of-self : goal.invariant_of-self
invariant_of-self c = record {
  sized = subst IsSized (sym c.asked.ensures)
      (sized_asked (option_map (λ v. v.now) c.args.vector) c.args.self.now.scan c.args.self.now.scan.next c.args.self.now.sized);
}

pub returns-clause-told : goal.returns-clause-told
returns-clause-told c = λ reads r told next lent. after_asked (option_map (λ v. v.now) c.args.vector) c.args.self.now.scan _ reads
    r c.args.self.now.sized c.asked.ensures told next lent
