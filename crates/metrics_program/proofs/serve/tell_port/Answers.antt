use Rattle.std.proofs.Common.{ℕ, subst}
use Rattle.metrics_program.specs.Printed.{Begins, listening_line}
use Rattle.metrics_program.proofs.Printing.{broken_off, on_err_of}
use Rattle.metrics_program.proofs.serve.tell_port.Goals as goal

pub returns-in_err-tell-clause-front : goal.returns-in_err-tell-clause-front
returns-in_err-tell-clause-front g c =
    let before = g.W.Write.contents c.args.writer.now in
    let after = g.W.Write.contents c.tell.new.writer in
    let begins = subst (λ (p : ℕ). Begins before after (listening_line p)) c.from.ensures c.in_err-tell.ensures.front in
    on_err_of c.from_residual-in_err-tell.result _ (broken_off before after c.port-port.result c.port-port.type_inv begins)
