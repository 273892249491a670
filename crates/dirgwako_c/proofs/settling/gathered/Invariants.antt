use Rattle.std.proofs.Common.{◌≡◌, ℕ, ◌<◌, true}
use mathlib.Core.Option.{some}
use lib.ListN.{get_elem?}
use Rattle.dirgwako_c.proofs.settling.gathered.Given as goal

abbrev pub invariant-loop-worker : goal.invariant-loop-worker
invariant-loop-worker g l = (j : ℕ) → j < l.worker → get_elem? l.marks j ≡ some true
