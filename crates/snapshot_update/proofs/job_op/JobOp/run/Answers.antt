use Rattle.std.proofs.Common.{IfErr, sym, subst}
use Rattle.register_rule.specs.Seats.{board_id}
use Rattle.snapshot_update.specs.Workers.{member_of, IsCountFault}
use Rattle.snapshot_update.specs.declared.job_op.JobOp.{JobOp}
use Rattle.snapshot_update.specs.JobOps.{op_of, registry_of}
use Rattle.snapshot_update.proofs.job_op.JobOp.run.Goals as goal

pub returns-in-Observe-clause-fault : goal.returns-in-Observe-clause-fault
returns-in-Observe-clause-fault g c =
    subst (λ (x : JobOp). IfErr c.observe.result (IsCountFault g.row.C g.row.H g.row.G (board_id c.args.board.now) (registry_of x)
    (op_of x) (member_of c.args.worker.now)))
    (sym c.in-Observe.is) c.observe.ensures.fault
