use Rattle.std.proofs.Common.{◌≡◌, ℕ, sym, subst}
use Rattle.snapshot_update.specs.Workers.{member_of, IsCounted, IsCountFault}
use Rattle.page_crew.specs.Shared.{id_in, worker_in}
use Rattle.page_crew.specs.Counting.{op_of}
use Rattle.page_crew.proofs.Counted.{one_counted, one_refused, held_on}
use Rattle.page_crew.proofs.Rows.{one_read}
use Rattle.page_crew.proofs.page_recorder.PageRecorder.count.Goals as goal

pub invariant_of-self : goal.invariant_of-self
invariant_of-self g c =
    let mid = c.find.new.self in
    let read = one_read (λ r. id_in r ≡ c.args.id) mid.recorders.items c.in-Some.place c.index_mut.result.now
    c.in-Some.ensures.place
    c.index_mut.ensures.value in
    held_on mid c.in-Some.place c.index_mut.result.now c.count.new.self read.0 (c.count.ensures.board, c.count.ensures.index)

pub returns-in-Ok-clause-counted : goal.returns-in-Ok-clause-counted
returns-in-Ok-clause-counted g c =
    let mid = c.find.new.self.recorders.items in
    let before = c.index_mut.result.now in
    let read = one_read (λ r. id_in r ≡ c.args.id) mid c.in-Some.place before c.in-Some.ensures.place c.index_mut.ensures.value in
    one_counted c.args.id c.args.self.now.recorders.items mid (op_of c.args.what) c.in-Some.place before c.count.new.self
    c.find.ensures.joined
    read.0 read.1 (c.count.ensures.board, c.count.ensures.index)
    (subst (λ (n : ℕ). IsCounted (id_in before) n (op_of c.args.what) (worker_in before) (worker_in c.count.new.self))
    (sym c.requires.of_it) c.in-Ok.ensures.counted)

pub returns-in-Err-clause-fault : goal.returns-in-Err-clause-fault
returns-in-Err-clause-fault g c =
    let mid = c.find.new.self.recorders.items in
    let before = c.index_mut.result.now in
    let read = one_read (λ r. id_in r ≡ c.args.id) mid c.in-Some.place before c.in-Some.ensures.place c.index_mut.ensures.value in
    one_refused c.args.id c.args.self.now.recorders.items mid (op_of c.args.what) c.in-Some.place before c.count.new.self
    c.find.ensures.joined
    read.0 read.1 (c.count.ensures.board, c.count.ensures.index) c.in-Err.fault c.in-Err.ensures.unchanged
    (subst (λ (n : ℕ). IsCountFault g.row.C g.row.H g.row.G (id_in before) n (op_of c.args.what) (member_of (worker_in before))
    c.in-Err.fault)
    (sym c.requires.of_it) c.in-Err.ensures.fault)
