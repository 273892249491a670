use Rattle.std.proofs.Common.{inr}
use Rattle.std.proofs.KnownBytes.{Appends-kept}
use Rattle.metrics_program.proofs.Printing.{begun, begun_kept}
use Rattle.metrics_program.proofs.serve.tell_no_memory.Goals as goal

pub returns-in-Ok-Ok : goal.returns-in-Ok-Ok
returns-in-Ok-Ok g c = Appends-kept _ _ _ _ c.in-Ok-Ok.ensures.sent c.flush.ensures.bytes

pub returns-in_default-2 : goal.returns-in_default-2
returns-in_default-2 g c =
    inr (inr (begun_kept _ _ _ _ (begun _ _ _ _ c.in_default.ensures.front.1) c.flush.ensures.bytes))
