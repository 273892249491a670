use Rattle.std.specs.Prelude.{ℕ}
use Rattle.metrics_program.specs.Counted.{AreAnswered}
use Rattle.metrics_program.proofs.threads.answer_all.Given as goal

-- connections were answered, and nothing else was done
abbrev pub invariant-loop-stream : goal.invariant-loop-stream
invariant-loop-stream g l = record {
  ready : g.A.Answers.ready l.at;
  answered : (many : ℕ) × AreAnswered g.A.Answers.answered many l.initial.at l.at;
}
