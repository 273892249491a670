use Rattle.std.proofs.Common.{◌≤◌}
use Rattle.dirgwako.specs.Answering.{AreAnswered}
use Rattle.dirgwako.proofs.serving.answer_all.Given as goal

abbrev pub invariant-loop-connection : goal.invariant-loop-connection
invariant-loop-connection g l = record {
  few : l.replies ≤ l._connection;
  met : AreAnswered g.T.Connections.answered l._connection l.replies l.initial.at l.at;
}
