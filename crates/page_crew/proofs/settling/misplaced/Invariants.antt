use Rattle.std.proofs.Common.{ℕ, ◌<◌}
use Rattle.page_crew.specs.Settling.{StandsAt}
use Rattle.page_crew.proofs.settling.misplaced.Given as goal

abbrev pub invariant-loop-place : goal.invariant-loop-place
invariant-loop-place g l = (j : ℕ) → j < l.place → StandsAt l.board l.recorders j
