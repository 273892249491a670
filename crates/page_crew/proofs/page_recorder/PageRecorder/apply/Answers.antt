use Rattle.std.proofs.Common.{◌≡◌}
use Rattle.page_crew.specs.Shared.{id_in}
use Rattle.page_crew.specs.Counting.{IsPublished, IsRefused}
use Rattle.snapshot_update.specs.declared.faults.CountFault.TheVariants.{Apply}
use Rattle.page_crew.proofs.Counted.{held_on}
use Rattle.page_crew.proofs.Rows.{one_did, one_read}
use Rattle.page_crew.proofs.page_recorder.PageRecorder.apply.Goals as goal

pub invariant_of-self : goal.invariant_of-self
invariant_of-self g c =
    let mid = c.find.new.self in
    let read = one_read (λ r. id_in r ≡ c.args.id) mid.recorders.items c.in-Some.place c.index_mut.result.now
    c.in-Some.ensures.place
    c.index_mut.ensures.value in
    held_on mid c.in-Some.place c.index_mut.result.now c.apply.new.self read.0 (c.apply.ensures.board, c.apply.ensures.index)

pub returns-in-Ok-clause-published : goal.returns-in-Ok-clause-published
returns-in-Ok-clause-published g c =
    let mid = c.find.new.self.recorders.items in
    let read = one_read (λ r. id_in r ≡ c.args.id) mid c.in-Some.place c.index_mut.result.now c.in-Some.ensures.place
    c.index_mut.ensures.value in
    one_did c.args.id c.args.self.now.recorders.items mid (IsPublished c.args.ops.now) c.in-Some.place c.index_mut.result.now
    c.apply.new.self
    c.find.ensures.joined read.0 read.1 (c.apply.ensures.board, c.apply.ensures.index)
    (record {
      updated = c.in-Ok.ensures.updated;
      lists = c.in-Ok.ensures.lists;
      accepted = c.in-Ok.ensures.accepted;
      room = c.in-Ok.ensures.room;
    })

pub returns-in-Err-clause-fault : goal.returns-in-Err-clause-fault
returns-in-Err-clause-fault g c =
    let mid = c.find.new.self.recorders.items in
    let read = one_read (λ r. id_in r ≡ c.args.id) mid c.in-Some.place c.index_mut.result.now c.in-Some.ensures.place
    c.index_mut.ensures.value in
    one_did c.args.id c.args.self.now.recorders.items mid (IsRefused c.args.ops.now (Apply c.in-Err.fault)) c.in-Some.place
    c.index_mut.result.now c.apply.new.self c.find.ensures.joined read.0 read.1 (c.apply.ensures.board, c.apply.ensures.index)
    (c.in-Err.ensures.unchanged, c.in-Err.ensures.fault)
