use Rattle.std.specs.Prelude.{ℕ}
use Rattle.dirgwako.specs.Answering.{AreAnswered}
use Rattle.dirgwako.proofs.serving.answer_forever.Given as goal

abbrev pub invariant-loop-connection : goal.invariant-loop-connection
invariant-loop-connection g l = (met : ℕ) × (replies : ℕ) × AreAnswered g.T.Connections.answered met replies l.initial.at l.at
