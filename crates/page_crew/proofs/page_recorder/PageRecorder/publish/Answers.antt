use Rattle.std.proofs.Common.{arith, refl}
use Rattle.page_crew.specs.Held.{recorders_of}
use Rattle.page_crew.proofs.First.{first_published, first_refused}
use Rattle.page_crew.proofs.page_recorder.PageRecorder.publish.Goals as goal

pub returns-in-Ok-clause-published : goal.returns-in-Ok-clause-published
returns-in-Ok-clause-published g c =
    first_published (recorders_of c.args.self.now) (recorders_of c.apply.new.self) c.args.changes.now _ c.ops_of.result
    (c.if-not-are_of.ensures.0 refl) (omega arith) c.ops_of.ensures c.in-Ok.ensures.published

pub returns-in-Err-clause-fault : goal.returns-in-Err-clause-fault
returns-in-Err-clause-fault g c =
    first_refused (recorders_of c.args.self.now) (recorders_of c.apply.new.self) c.args.changes.now _ c.ops_of.result
    c.in-Err.fault
    (c.if-not-are_of.ensures.0 refl) (omega arith) c.ops_of.ensures c.in-Err.ensures.fault
