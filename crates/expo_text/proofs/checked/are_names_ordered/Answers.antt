use Rattle.std.proofs.Common.{◌-◌, refl, arith}
use Rattle.std.proofs.lemmas.Cmp.{nat_list_cmp_total, on_total}
use Rattle.std.specs.Cmp.Lexicographic.{slice_cmp}
use Rattle.std.specs.Ordering.{nat_cmp}
use Rattle.expo_text.specs.Scraped.{Family}
use Rattle.expo_text.specs.Order.{IsBefore}
use Rattle.expo_text.proofs.Elements.{yes, no, never, rising_at, rising_pairs, pair_but}
use Rattle.expo_text.proofs.checked.are_names_ordered.Goals as goal

pub loop-at-preserved : goal.loop-at-preserved
loop-at-preserved c =
    rising_at (λ (a b : Family). slice_cmp nat_cmp a.desc.name b.desc.name) c.args.families.now c.loop-at.at
    c.index-families-at.result c.index-families-at-in-loop-at.result (omega arith) (omega arith) c.index-families-at.is
    c.index-families-at-in-loop-at.is (c.if-not-is_name_before.ensures.0 refl) c.loop-at.invariant

pub returns-then-not-is_name_before : goal.returns-then-not-is_name_before
returns-then-not-is_name_before c =
    no (pair_but (λ (a b : Family). IsBefore a.desc.name b.desc.name) c.args.families.now (c.loop-at.at - 1) c.loop-at.at
    c.index-families-at.result c.index-families-at-in-loop-at.result (omega arith) (omega arith) c.index-families-at.is
    c.index-families-at-in-loop-at.is (never c.if-not-is_name_before.ensures.1))

pub returns : goal.returns
returns c =
    yes (rising_pairs (λ (a b : Family). slice_cmp nat_cmp a.desc.name b.desc.name)
    (on_total (λ (family : Family). family.desc.name) nat_list_cmp_total) c.args.families.now c.loop-at.at
    (omega arith) c.loop-at.invariant)
