use Rattle.std.proofs.Common.{◌≡◌}
use Rattle.snapshot_core.proofs.Summing.{added_up}
use Rattle.snapshot_core.proofs.words.add.Given as goal

abbrev pub invariant-loop-k : goal.invariant-loop-k
invariant-loop-k g l = l.words.items ≡ added_up l.k l.initial.words.items l.row
