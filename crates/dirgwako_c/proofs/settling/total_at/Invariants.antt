use Rattle.std.proofs.Common.{◌≡◌, ◌+◌, ◌*◌, ◌≤◌, drop, length}
use Rattle.dirgwako_c.specs.Registries.{recorders_in}
use Rattle.dirgwako_c.specs.Settling.{seats_on, published_in}
use Rattle.dirgwako_c.proofs.settling.total_at.Given as goal

abbrev pub invariant-loop-place : goal.invariant-loop-place
invariant-loop-place g l = record {
  inside : l.place ≤ length (recorders_in l.spare);
  rest : l.sum + published_in (drop l.place (seats_on l.board (recorders_in l.spare))) l.word
      ≡ published_in (seats_on l.board (recorders_in l.spare)) l.word;
  low : l.sum ≤ l.place * 281474976710655;
}
