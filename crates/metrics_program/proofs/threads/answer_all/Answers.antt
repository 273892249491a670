use Rattle.std.proofs.Common.{suc, refl}
use Rattle.metrics_program.proofs.threads.answer_all.Goals as goal

pub loop-stream-init : goal.loop-stream-init
loop-stream-init g c = record { ready = c.requires; answered = (0, refl) }

pub loop-stream-preserved : goal.loop-stream-preserved
loop-stream-preserved g c =
    let met = c.loop-stream.invariant.answered in
    record { ready = c.answer.ensures.ready; answered = (suc met.0, (_, met.1, c.answer.ensures.answered)) }
