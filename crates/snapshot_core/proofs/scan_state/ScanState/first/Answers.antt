use Rattle.snapshot_core.proofs.Told.{after_first}
use Rattle.snapshot_core.proofs.scan_state.ScanState.first.Goals as goal

pub returns-clause-told : goal.returns-clause-told
returns-clause-told c = λ reads r told next number torn. after_first c.args.number c.args.whole c.args.self.now.scan _ reads r
    c.args.self.now.sized c.first.ensures told next number torn
