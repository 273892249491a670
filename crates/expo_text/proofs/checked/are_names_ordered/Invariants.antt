use Rattle.std.specs.Cmp.Lexicographic.{slice_cmp}
use Rattle.std.specs.Ordering.{nat_cmp}
use Rattle.expo_text.specs.Scraped.{Family}
use Rattle.expo_text.proofs.Elements.{AreRising}
use Rattle.expo_text.proofs.checked.are_names_ordered.Given as goal

-- the name of each family before this place stands before that of the next
abbrev pub invariant-loop-at : goal.invariant-loop-at
invariant-loop-at l = AreRising (λ (a b : Family). slice_cmp nat_cmp a.desc.name b.desc.name) l.families l.at
