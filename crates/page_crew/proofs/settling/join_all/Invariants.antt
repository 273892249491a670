use Rattle.std.specs.List.{AllZip}
use Rattle.page_crew.specs.Settling.{HasJoined}
use Rattle.page_crew.proofs.settling.join_all.Given as goal

abbrev pub invariant-loop-place : goal.invariant-loop-place
invariant-loop-place g l = AllZip HasJoined l.fn.recorders l.recorders
