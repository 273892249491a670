use Rattle.metrics_program.proofs.Printing.{begun_kept, begun_whole, on_err}
use Rattle.metrics_program.proofs.serve.tell.Goals as goal

pub returns-clause-front : goal.returns-clause-front
returns-clause-front g c =
    on_err _ _ (begun_kept _ _ _ _ (begun_whole _ _ _ c.in_ok-tell_number.ensures.told) c.flush.ensures.bytes)
