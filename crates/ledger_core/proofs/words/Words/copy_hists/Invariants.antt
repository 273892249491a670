use Rattle.std.proofs.Common.{◌≡◌, ◌<◌, ◌+◌, ◌*◌, ℕ, get_or}
use Rattle.ledger_core.proofs.words.Words.copy_hists.Given as goal

abbrev pub invariant-loop-hist : goal.invariant-loop-hist
invariant-loop-hist g l = (k : ℕ) → k < g.row.C + 27 * l.hist → get_or l.words k 0 ≡ get_or l.self k 0
