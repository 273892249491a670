use Rattle.std.specs.Prelude.{◌++◌, decimal}
use Rattle.std.proofs.KnownBytes.{Appends-trans}
use Rattle.std.proofs.Common.{◌≡◌, subst, ◌∙◌}
use Rattle.std.specs.Io.KnownBytes.{Appends}
use Rattle.metrics_program.specs.Printed.{Begins}
use Rattle.metrics_program.proofs.Printing.{begun, begun_after, begun_before, on_err}
use Rattle.metrics_program.proofs.Pushed.{on_err_from}
use Rattle.metrics_program.proofs.sending.tell_number.Goals as goal

pub returns-in_err-send-clause-front : goal.returns-in_err-send-clause-front
returns-in_err-send-clause-front g c =
    let word = c.args.word.now in let digits = decimal c.args.number in
    on_err _ _ (begun_before _ _ (word ++ digits) c.args.end.now
    (begun_before _ _ word digits (begun _ _ _ _ c.in_err-send.ensures.front.1)))

pub returns-in_err-send-2-clause-front : goal.returns-in_err-send-2-clause-front
returns-in_err-send-2-clause-front g c =
    let word = c.args.word.now in let digits = decimal c.args.number in
    let text : c.as_bytes.result.now ≡ digits = c.as_bytes.ensures.value ∙ c.format.ensures.text in
    let second = subst (Begins _ _) text (begun _ _ _ _ c.in_err-send-2.ensures.front.1) in
    on_err _ _ (begun_before _ _ (word ++ digits) c.args.end.now (begun_after _ _ _ word digits c.in_ok-send.ensures.sent second))

pub returns-clause-front : goal.returns-clause-front
returns-clause-front g c =
    let word = c.args.word.now in let digits = decimal c.args.number in
    let text : c.as_bytes.result.now ≡ digits = c.as_bytes.ensures.value ∙ c.format.ensures.text in
    let second = subst (Appends _ _) text c.in_ok-send-2.ensures.sent in
    let both = Appends-trans _ _ _ word digits c.in_ok-send.ensures.sent second in
    on_err_from c.send-3.result (λ front. begun_after _ _ _ (word ++ digits) c.args.end.now both (begun _ _ _ _ front.1))
    c.send-3.ensures.front
