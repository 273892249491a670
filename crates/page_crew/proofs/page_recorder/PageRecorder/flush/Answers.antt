use Rattle.std.proofs.Common.{ℕ, List, All, subst}
use Rattle.ledger_core.specs.declared.op.Op.{Op}
use Rattle.ledger_core.specs.Ops.{IsWithin}
use Rattle.page_crew.specs.Counting.{OneDid, IsRefusedOn}
use Rattle.page_crew.specs.Held.{recorders_of}
use Rattle.page_crew.specs.Publishing.{IsFlushed}
use Rattle.page_crew.proofs.Flushing.{flushed, flush_refused}
use Rattle.page_crew.proofs.page_recorder.PageRecorder.flush.Goals as goal

pub returns-in-Ok-clause-flushed : goal.returns-in-Ok-clause-flushed
returns-in-Ok-clause-flushed g c =
    let old = recorders_of c.args.self.now in
    let new = recorders_of c.apply.new.self in
    subst (λ (ops : List Op). OneDid c.args.tally.now.registry old new (IsFlushed ops)) c.ops.ensures.ops
    (subst (λ (id : ℕ). OneDid id old new (IsFlushed c.ops.result.now)) c.registry.ensures
    (flushed c.registry.result old new c.ops.result.now c.in-Ok.ensures.published))

pub returns-in-Err-clause-fault : goal.returns-in-Err-clause-fault
returns-in-Err-clause-fault g c =
    let old = recorders_of c.args.self.now in
    let new = recorders_of c.apply.new.self in
    flush_refused c.args.tally.now old new c.in-Err.fault
    (subst (λ (ops : List Op). All (IsWithin g.row.C g.row.H g.row.G) ops) c.ops.ensures.ops c.ops.ensures.within)
    (subst (λ (ops : List Op). IsRefusedOn c.args.tally.now.registry ops old new c.in-Err.fault) c.ops.ensures.ops
    (subst (λ (id : ℕ). IsRefusedOn id c.ops.result.now old new c.in-Err.fault) c.registry.ensures c.in-Err.ensures.fault))
