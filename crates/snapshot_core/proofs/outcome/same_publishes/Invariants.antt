use Rattle.std.proofs.Common.{◌≡◌, map, take, length}
use Rattle.snapshot_core.specs.Turns.{published_of}
use Rattle.snapshot_core.proofs.outcome.same_publishes.Given as goal

abbrev pub invariant-loop-k : goal.invariant-loop-k
invariant-loop-k l = record {
  long : length l.one ≡ length l.two;
  same : map published_of (take l.k l.one) ≡ map published_of (take l.k l.two);
}
