use Rattle.std.proofs.Common.{ℕ, ◌+◌, ◌<◌}
use Rattle.page_crew.specs.Settling.{AreAll}
use Rattle.page_crew.proofs.owner.PageCrew.not_all.Given as goal

abbrev pub invariant-loop-number : goal.invariant-loop-number
invariant-loop-number g l = (k : ℕ) → k < l.number → AreAll (l.self.first + k) l.recorders
