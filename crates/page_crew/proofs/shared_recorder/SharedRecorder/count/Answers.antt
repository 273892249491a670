use Rattle.std.proofs.Common.{subst, sym}
use Rattle.std.specs.Prelude.{IfErr}
use Rattle.snapshot_update.specs.Workers.{member_of, IsCountFault}
use Rattle.page_crew.specs.Shared.{id_in, worker_in}
use Rattle.page_crew.specs.Counting.{registry_of, op_of}
use Rattle.page_crew.specs.declared.count.Count.{Count}
use Rattle.page_crew.proofs.shared_recorder.SharedRecorder.count.Goals as goal

pub returns-in-Observe-clause-fault : goal.returns-in-Observe-clause-fault
returns-in-Observe-clause-fault g c =
    let old = c.args.self.now in
    subst (λ (w : Count). IfErr c.observe.result (IsCountFault g.row.C g.row.H g.row.G (id_in old) (registry_of w) (op_of w)
    (member_of (worker_in old)))) (sym c.in-Observe.is) c.observe.ensures.fault
