use Rattle.std.proofs.Common.{refl, arith}
use Rattle.expo_text.proofs.Elements.{no, never}
use Rattle.expo_text.proofs.checked.is_scrape.Goals as goal

pub returns-then-families-gt-FAMILIES : goal.returns-then-families-gt-FAMILIES
returns-then-families-gt-FAMILIES c vector = no (λ is. let few = is.few in omega arith)

pub returns-then-not-are_families : goal.returns-then-not-are_families
returns-then-not-are_families c vector = no (λ is. never c.if-not-are_families.ensures.1 is.each)

pub returns-then-not-are_names_ordered : goal.returns-then-not-are_names_ordered
returns-then-not-are_names_ordered c vector = no (λ is. never c.if-not-are_names_ordered.ensures.1 is.ordered)

pub returns : goal.returns
returns c vector = (
  λ apart. record {
    few = omega arith;
    each = c.if-not-are_families.ensures.0 refl;
    ordered = c.if-not-are_names_ordered.ensures.0 refl;
    apart = c.are_apart.ensures.0 apart;
  },
  λ is. c.are_apart.ensures.1 is.apart,
)
