use Rattle.std.proofs.Common.{◌≡◌, ℕ, ◌<◌, ◌≤◌}
use mathlib.Core.Option.{some}
use lib.ListN.{get_elem?}
use Rattle.chain_law.proofs.history.rises.Given as goal

abbrev pub invariant-loop-i : goal.invariant-loop-i
invariant-loop-i l = (q x y : ℕ) → q < l.i → get_elem? l.from q ≡ some x → get_elem? l.to q ≡ some y → x ≤ y
