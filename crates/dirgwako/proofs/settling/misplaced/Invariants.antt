use Rattle.std.proofs.Common.{ℕ, ◌<◌}
use Rattle.dirgwako.specs.Settling.{StandsAt}
use Rattle.dirgwako.proofs.settling.misplaced.Given as goal

abbrev pub invariant-loop-place : goal.invariant-loop-place
invariant-loop-place g l = (j : ℕ) → j < l.place → StandsAt l.recorders j
