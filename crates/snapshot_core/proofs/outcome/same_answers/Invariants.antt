use Rattle.std.proofs.Common.{◌≡◌, map, take, length}
use Rattle.snapshot_core.specs.Turns.{answered_of}
use Rattle.snapshot_core.proofs.outcome.same_answers.Given as goal

abbrev pub invariant-loop-k : goal.invariant-loop-k
invariant-loop-k l = record {
  long : length l.one ≡ length l.two;
  same : map answered_of (take l.k l.one) ≡ map answered_of (take l.k l.two);
}
