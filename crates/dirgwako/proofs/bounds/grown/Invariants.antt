use Rattle.std.proofs.Common.{◌≡◌, ◌≤◌, ◌^◌, take, length}
use Rattle.std.specs.Prelude.{MatchOption}
use Rattle.dirgwako.specs.Spaced.{bounds_by, bound_at}
use Rattle.dirgwako.proofs.bounds.grown.Given as goal

abbrev pub invariant-loop-at : goal.invariant-loop-at
invariant-loop-at l = record {
  few : l.at ≤ 24;
  long : length l.places ≡ 24;
  made : take l.at l.places ≡ bounds_by (bound_at l.growth l.start) l.at;
  next : MatchOption l.next (2 ^ 64 ≤ bound_at l.growth l.start l.at) (λ bound. bound ≡ bound_at l.growth l.start l.at);
}
