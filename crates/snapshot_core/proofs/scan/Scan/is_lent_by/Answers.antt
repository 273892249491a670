use Rattle.std.proofs.Common.{sym, arith, get_or}
use Rattle.snapshot_core.proofs.Summing.{above_short}
use Rattle.snapshot_core.proofs.scan.Scan.is_lent_by.Goals as goal

pub returns-then-vector-self : goal.returns-then-vector-self
returns-then-vector-self c =
    sym (above_short (λ q. get_or c.args.self.now.floor q 0) 0 c.args.self.now.n c.args.vector.now (omega arith))
