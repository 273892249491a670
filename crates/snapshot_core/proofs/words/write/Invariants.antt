use Rattle.std.proofs.Common.{◌≡◌, take}
use Rattle.snapshot_core.proofs.words.write.Given as goal

abbrev pub invariant-loop-k : goal.invariant-loop-k
invariant-loop-k g l = l.words.items ≡ take l.k l.row
