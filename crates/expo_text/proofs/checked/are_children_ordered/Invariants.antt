use Rattle.std.specs.Cmp.Lexicographic.{slice_cmp}
use Rattle.std.specs.Ordering.{nat_cmp}
use Rattle.expo_text.specs.Scraped.{Child}
use Rattle.expo_text.proofs.Elements.{AreRising}
use Rattle.expo_text.proofs.checked.are_children_ordered.Given as goal

-- each child before this place stands before the next
abbrev pub invariant-loop-at : goal.invariant-loop-at
invariant-loop-at l = AreRising (λ (a b : Child). slice_cmp (slice_cmp nat_cmp) a.values b.values) l.children l.at
