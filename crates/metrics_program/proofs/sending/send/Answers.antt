use Rattle.metrics_program.proofs.Sent.{sent_more}
use Rattle.metrics_program.proofs.sending.send.Goals as goal

pub loop-sent-preserved : goal.loop-sent-preserved
loop-sent-preserved g c =
    sent_more (g.W.Write.contents c.args.writer.now) (g.W.Write.contents c.loop-sent.writer) (g.W.Write.contents c.write.new.self)
    c.args.bytes.now c.loop-sent.sent c.in-Ok.taken c.loop-sent-test.true c.in-Ok.ensures.bound c.loop-sent.invariant.1
    c.in-Ok.ensures.bytes
