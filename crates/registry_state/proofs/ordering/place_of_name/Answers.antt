use Rattle.std.proofs.Common.{rules, arith}
use Rattle.std.proofs.lemmas.List.Elements.{AllWithin-more}
use Rattle.expo_text.specs.Order.{IsBefore}
use Rattle.registry_state.specs.Held.{family_at}
use Rattle.registry_state.proofs.Ordered.{order_below, names_behind, before_at}
use Rattle.registry_state.proofs.ordering.place_of_name.Goals as goal

pub is_before-requires : goal.is_before-requires
is_before-requires c = order_below c.args.families.now c.args.order.now c.requires.order c.loop-place.place 0 (omega arith)

pub returns-then-not-is_before : goal.returns-then-not-is_before
returns-then-not-is_before c = record {
  within = omega arith;
  front = c.loop-place.invariant;
  back = names_behind c.args.families.now c.args.order.now c.args.name.now c.loop-place.place c.requires.order c.requires.new
      (omega arith) (search rules);
}

pub loop-place-preserved : goal.loop-place-preserved
loop-place-preserved c =
    AllWithin-more (λ i. IsBefore (family_at c.args.families.now i).desc.name c.args.name.now) c.args.order.now 0
    c.loop-place.place c.loop-place.invariant
    (before_at c.args.families.now c.args.order.now c.args.name.now c.loop-place.place (omega arith) (search rules))
