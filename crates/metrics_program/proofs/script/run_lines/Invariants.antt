use Rattle.std.proofs.Common.{◌≡◌, ℕ, List, length}
use Rattle.script_lines.specs.Lines.{unread}
use Rattle.metrics_program.specs.Ran.{HasRun}
use Rattle.metrics_program.specs.State.{IsReady}
use Rattle.metrics_program.proofs.script.run_lines.Given as goal

-- the workers are at home, and so many lines were done
abbrev pub invariant-loop-done : goal.invariant-loop-done
invariant-loop-done g l =
    IsReady l.state × ((texts : List (List ℕ)) × (l.done ≡ length texts)
    × HasRun l.fn.state (unread g.R.Read.remaining l.fn.lines) (g.W.Write.contents l.fn.writer) texts l.state
    (unread g.R.Read.remaining l.lines)
    (g.W.Write.contents l.writer))
