use Rattle.std.proofs.Common.{◌≡◌, ◌<◌, ℕ, get_or}
use Rattle.ledger_core.proofs.words.Words.copy_counters.Given as goal

abbrev pub invariant-loop-counter : goal.invariant-loop-counter
invariant-loop-counter g l = (k : ℕ) → k < l.counter → get_or l.words k 0 ≡ get_or l.self k 0
