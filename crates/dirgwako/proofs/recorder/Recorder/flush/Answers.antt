use Rattle.std.proofs.Common.{List, All, subst, sym, ◌∙◌}
use Rattle.ledger_core.specs.declared.op.Op.{Op}
use Rattle.ledger_core.specs.Ops.{sum_ops, IsWithin}
use Rattle.ledger_core.proofs.Alike.{accepts_alike}
use Rattle.register_rule.specs.Sums.{word_after}
use Rattle.snapshot_update.specs.Workers.{member_of, IsApplyFault}
use Rattle.dirgwako.specs.Recorders.{worker_in}
use Rattle.page_crew.proofs.Flushing.{refused_alike}
use Rattle.dirgwako.proofs.recorder.Recorder.flush.Goals as goal

pub returns-in-Ok-clause-flushed : goal.returns-in-Ok-clause-flushed
returns-in-Ok-clause-flushed g c = record {
  of_it = sym c.registry.ensures ∙ c.if-registry-id.false ∙ c.id.ensures;
  updated = rw (← c.ops.ensures.ops) c.in-Ok.ensures.updated;
  lists = rw (← c.ops.ensures.ops) c.in-Ok.ensures.lists;
  accepted = rw (← c.ops.ensures.ops) c.in-Ok.ensures.accepted;
  alike = rw (← c.ops.ensures.ops)
      (accepts_alike g.row.C g.row.H g.row.G (word_after (sum_ops g.row.C g.row.H)
      (member_of (worker_in c.args.self.now)).work.made)
      c.ops.result.now c.in-Ok.ensures.accepted);
  room = c.in-Ok.ensures.room;
}

pub returns-in-Err-clause-fault : goal.returns-in-Err-clause-fault
returns-in-Err-clause-fault g c =
    let m = member_of (worker_in c.args.self.now) in
    let why : IsApplyFault g.row.C g.row.H g.row.G m c.args.tally.now.ops c.in-Err.fault = rw (← c.ops.ensures.ops)
    c.in-Err.ensures.fault in (
      sym c.registry.ensures ∙ c.if-registry-id.false ∙ c.id.ensures,
      why,
      refused_alike g.row.C g.row.H g.row.G c.args.tally.now.ops m c.in-Err.fault
          (subst (λ (ops : List Op). All (IsWithin g.row.C g.row.H g.row.G) ops) c.ops.ensures.ops c.ops.ensures.within) why,
    )
