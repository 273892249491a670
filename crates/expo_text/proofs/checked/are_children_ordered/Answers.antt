use Rattle.std.proofs.Common.{◌-◌, refl, arith}
use Rattle.std.proofs.lemmas.Cmp.{lists_total, nat_list_cmp_total, on_total}
use Rattle.std.specs.Cmp.Lexicographic.{slice_cmp}
use Rattle.std.specs.Ordering.{nat_cmp}
use Rattle.expo_text.specs.Scraped.{Child}
use Rattle.expo_text.specs.Order.{IsChildBefore}
use Rattle.expo_text.proofs.Elements.{yes, no, never, rising_at, rising_pairs, pair_but}
use Rattle.expo_text.proofs.checked.are_children_ordered.Goals as goal

pub loop-at-preserved : goal.loop-at-preserved
loop-at-preserved c =
    rising_at (λ (a b : Child). slice_cmp (slice_cmp nat_cmp) a.values b.values) c.args.children.now c.loop-at.at
    c.index-children-at.result c.index-children-at-in-loop-at.result (omega arith) (omega arith) c.index-children-at.is
    c.index-children-at-in-loop-at.is (c.if-not-is_child_before.ensures.0 refl) c.loop-at.invariant

pub returns-then-not-is_child_before : goal.returns-then-not-is_child_before
returns-then-not-is_child_before c =
    no (pair_but (λ (a b : Child). IsChildBefore a b) c.args.children.now (c.loop-at.at - 1) c.loop-at.at
    c.index-children-at.result c.index-children-at-in-loop-at.result (omega arith) (omega arith) c.index-children-at.is
    c.index-children-at-in-loop-at.is (never c.if-not-is_child_before.ensures.1))

pub returns : goal.returns
returns c =
    yes (rising_pairs (λ (a b : Child). slice_cmp (slice_cmp nat_cmp) a.values b.values)
    (on_total (λ (child : Child). child.values) (lists_total nat_list_cmp_total)) c.args.children.now c.loop-at.at
    (omega arith) c.loop-at.invariant)
