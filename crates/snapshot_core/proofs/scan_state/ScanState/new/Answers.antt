use Rattle.std.proofs.Common.{sym, subst, []}
use Rattle.snapshot_core.specs.Told.{IsScanAfter}
use Rattle.snapshot_core.proofs.Told.{told_new}
use Rattle.snapshot_core.proofs.scan_state.ScanState.new.Goals as goal

pub returns-clause-told : goal.returns-clause-told
returns-clause-told c = subst (λ s. IsScanAfter s []) (sym c.new.ensures) (told_new c.args.n c.requires.0)
