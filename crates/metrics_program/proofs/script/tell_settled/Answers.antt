use Rattle.std.proofs.Common.{arith, ◌++◌, codes}
use Rattle.std.specs.Prelude.{flat_map}
use Rattle.metrics_program.proofs.Printing.{begun, begun_before, on_err}
use Rattle.metrics_program.proofs.Pushed.{on_err_from, on_ok_from}
use Rattle.metrics_program.proofs.Settled.{settled_more, settled_begun, settled_whole, settled_nearly}
use Rattle.metrics_program.specs.ScriptLines.{after_blank}
use Rattle.metrics_program.proofs.script.tell_settled.Goals as goal

pub returns-in_err-send-clause-front : goal.returns-in_err-send-clause-front
returns-in_err-send-clause-front g c =
    on_err _ _ (begun_before _ _ (codes "settled") (flat_map after_blank c.args.vector.now ++ codes "\n")
    (begun _ _ _ _ c.in_err-send.ensures.front.1))

pub loop-number-preserved : goal.loop-number-preserved
loop-number-preserved g c =
    settled_more _ _ _ c.args.vector.now c.loop-number.number-index c.loop-number-test.true c.loop-number.invariant
    c.in_ok-tell_number.ensures.told

pub returns-in_err-tell_number-clause-front : goal.returns-in_err-tell_number-clause-front
returns-in_err-tell_number-clause-front g c =
    on_err _ _ (settled_begun _ _ _ c.args.vector.now c.loop-number.number-index c.loop-number-test.true c.loop-number.invariant
    c.in_err-tell_number.ensures.front)

pub returns-clause-told : goal.returns-clause-told
returns-clause-told g c =
    on_ok_from c.send-2.result
    (λ feed. settled_whole _ _ _ c.args.vector.now c.loop-number.number-index (omega arith) c.loop-number.invariant feed)
    c.send-2.ensures.sent

pub returns-clause-front : goal.returns-clause-front
returns-clause-front g c =
    on_err_from c.send-2.result
    (λ feed. settled_nearly _ _ _ c.args.vector.now c.loop-number.number-index (omega arith) c.loop-number.invariant
    (begun _ _ _ _ feed.1)) c.send-2.ensures.front
