use Rattle.std.proofs.Common.{◌≡◌, ◌+◌, ◌*◌, ◌≤◌, drop, length}
use Rattle.page_crew.specs.Settling.{published_on}
use Rattle.page_crew.proofs.settling.total_at.Given as goal

abbrev pub invariant-loop-place : goal.invariant-loop-place
invariant-loop-place g l = record {
  inside : l.place ≤ length l.recorders;
  rest : l.sum + published_on l.board (drop l.place l.recorders) l.word ≡ published_on l.board l.recorders l.word;
  low : l.sum ≤ l.place * 281474976710655;
}
