use Rattle.std.proofs.Common.{◌≡◌, drop}
use Rattle.std.specs.Ordering.{nat_cmp}
use Rattle.std.specs.Cmp.Lexicographic.{slice_cmp}
use Rattle.expo_text.proofs.checked.compare.Given as goal

-- the values from this place on stand to each other as all do
abbrev pub invariant-loop-at : goal.invariant-loop-at
invariant-loop-at l = slice_cmp (slice_cmp nat_cmp) (drop l.at l.a) (drop l.at l.b) ≡ slice_cmp (slice_cmp nat_cmp) l.a l.b
