use Rattle.std.proofs.Common.{rules}
use Rattle.std.proofs.lemmas.Fn.{always_returns_same}
use Rattle.std.proofs.lemmas.List.Sorted.{ranks_by}
use Rattle.std.specs.Ordering.{nat_cmp, is_lt}
use Rattle.std.specs.Cmp.Lexicographic.{slice_cmp}
use Rattle.expo_text.specs.Scraped.{Child}
use Rattle.scrape_merge.proofs.Children.{values_total, strict, still_distinct}
use Rattle.scrape_merge.proofs.showing.sort.Goals as goal

pub returns-clause-ordered : goal.returns-clause-ordered
returns-clause-ordered c =
    strict c.sort_unstable_by.new.self.items
    (c.sort_unstable_by.ensures.sorted (λ (a b : Child). is_lt (slice_cmp (slice_cmp nat_cmp) a.values b.values))
    (ranks_by values_total (λ (child : Child). child.values))
    (always_returns_same _ _ _ (λ a r f called. (search rules, search rules))))
    (still_distinct c.args.children.now.items c.sort_unstable_by.new.self.items c.sort_unstable_by.ensures.permutation c.requires)
