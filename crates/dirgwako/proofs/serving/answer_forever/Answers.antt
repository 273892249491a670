use Rattle.dirgwako.proofs.Answering.{one_more}
use Rattle.dirgwako.proofs.serving.answer_forever.Goals as goal

pub loop-connection-preserved : goal.loop-connection-preserved
loop-connection-preserved g c =
    let met = c.loop-connection.invariant in
    one_more g.T.Connections.answered met.0 met.1 _ _ _ c.in_ok-answer_next.field-0 met.2 c.in_ok-answer_next.ensures.answered
