use Rattle.std.proofs.lemmas.Slice.Eq.{slice_eq-Decides}
use Rattle.snapshot_core.proofs.Same.{op_decides}
use Rattle.snapshot_core.proofs.outcome.same_ops.Goals as goal

pub returns : goal.returns
returns c = slice_eq-Decides op_decides c.args.one.now c.args.two.now c.eq.result c.eq.ensures
