use Rattle.std.proofs.Common.{◌≡◌, ◌<◌, ◌+◌, ◌*◌, ℕ, get_or}
use Rattle.ledger_core.proofs.words.Words.copy_gauges.Given as goal

abbrev pub invariant-loop-gauge : goal.invariant-loop-gauge
invariant-loop-gauge g l = (k : ℕ) → k < g.row.C + 27 * g.row.H + 2 * l.gauge → get_or l.words k 0 ≡ get_or l.self k 0
