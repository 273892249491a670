use Rattle.std.proofs.Common.{◌≡◌, ◌<◌, ◌+◌, ◌*◌, ℕ, get_or}
use Rattle.ledger_core.proofs.words.Words.copy_hist.Given as goal

abbrev pub invariant-loop-item : goal.invariant-loop-item
invariant-loop-item g l = (k : ℕ) → k < g.row.C + 27 * l.hist + l.item → get_or l.words k 0 ≡ get_or l.self k 0
