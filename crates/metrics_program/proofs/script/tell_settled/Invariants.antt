use Rattle.std.proofs.Common.{take}
use Rattle.std.specs.Io.KnownBytes.{Appends}
use Rattle.metrics_program.proofs.Settled.{front}
use Rattle.metrics_program.proofs.script.tell_settled.Given as goal

-- the numbers so far were written
abbrev pub invariant-loop-number : goal.invariant-loop-number
invariant-loop-number g l = Appends (g.W.Write.contents l.fn.writer) (g.W.Write.contents l.writer)
    (front (take l.number-index l.vector))
