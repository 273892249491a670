use Rattle.ledger_core.proofs.Steps.{adds_none, adds_more, accepts_none, accepts_more, fault_of_list, same_before}
use Rattle.ledger_core.proofs.words.Words.try_apply.Goals as goal

pub loop-at-init : goal.loop-at-init
loop-at-init g c = record {
  adds = adds_none g.row.C g.row.H c.args.self.now;
  accepts = accepts_none g.row.C g.row.H g.row.G c.args.self.now (λ k. rw (← c.self.view_is) (c.self.invariant.bounded k));
}

pub returns-in-Err-clause-fault : goal.returns-in-Err-clause-fault
returns-in-Err-clause-fault g c =
    fault_of_list g.row.C g.row.H g.row.G c.args.self.now c.loop-at.self c.args.ops.now c.loop-at.at _ c.in-Err.fault
    c.loop-at-test.true c.loop-at.invariant.accepts c.loop-at.invariant.adds c.in-Err.ensures.fault

pub returns-in-Err-clause-unchanged : goal.returns-in-Err-clause-unchanged
returns-in-Err-clause-unchanged g c =
    same_before g.row.C g.row.H c.args.self.now c.take_back.new.self c.loop-at.self _ c.loop-at.invariant.adds
    (rw c.in-Err.ensures.unchanged at c.take_back.ensures)

pub loop-at-preserved : goal.loop-at-preserved
loop-at-preserved g c = record {
  adds = adds_more g.row.C g.row.H c.args.self.now c.loop-at.self c.try_add.new.self c.args.ops.now c.loop-at.at _
      c.loop-at-test.true c.loop-at.invariant.adds c.in_default.ensures.ok;
  accepts = accepts_more g.row.C g.row.H g.row.G c.args.self.now c.loop-at.self c.args.ops.now c.loop-at.at _ c.loop-at-test.true
      c.loop-at.invariant.accepts c.loop-at.invariant.adds c.in_default.ensures.within c.in_default.ensures.room;
}
