use Rattle.std.proofs.Common.{◌≡◌, ℕ, ◌<◌, true}
use mathlib.Core.Option.{some}
use lib.ListN.{get_elem?}
use Rattle.chain_law.proofs.gathering.missing.Given as goal

abbrev pub invariant-loop-i : goal.invariant-loop-i
invariant-loop-i g l = (j : ℕ) → j < l.i → get_elem? l.marks j ≡ some true
