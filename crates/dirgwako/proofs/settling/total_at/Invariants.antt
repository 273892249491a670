use Rattle.std.proofs.Common.{◌≡◌, ◌+◌, ◌*◌, ◌≤◌, drop, length}
use Rattle.dirgwako.specs.Settling.{published_in}
use Rattle.dirgwako.proofs.settling.total_at.Given as goal

abbrev pub invariant-loop-place : goal.invariant-loop-place
invariant-loop-place g l = record {
  inside : l.place ≤ length l.recorders;
  rest : l.sum + published_in (drop l.place l.recorders) l.word ≡ published_in l.recorders l.word;
  low : l.sum ≤ l.place * 281474976710655;
}
