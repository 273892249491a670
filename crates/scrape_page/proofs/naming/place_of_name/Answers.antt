use Rattle.std.proofs.Common.{◌≢◌, ◌<◌, get_or, length, map, rules, arith}
use Rattle.std.proofs.lemmas.List.{length-map}
use Rattle.std.proofs.lemmas.List.Elements.{All-map, AllWithin-more}
use Rattle.expo_text.specs.Order.{IsBefore}
use Rattle.registry_state.specs.Replay.{Family}
use Rattle.registry_state.specs.Held.{family_at}
use Rattle.registry_state.proofs.Ordered.{order_below, names_behind, before_at}
use Rattle.scrape_page.specs.Families.{as_family}
use Rattle.scrape_page.proofs.naming.place_of_name.Goals as goal

pub is_before-requires : goal.is_before-requires
is_before-requires c =
    let below : get_or c.args.order.now c.loop-place.place 0 < length (map as_family c.args.families.now) =
    order_below (map as_family c.args.families.now) c.args.order.now c.requires.order c.loop-place.place 0 (omega arith) in
    omega (arith, below, length-map c.args.families.now as_family)

pub returns-then-not-is_before : goal.returns-then-not-is_before
returns-then-not-is_before c = record {
  within = omega arith;
  front = c.loop-place.invariant;
  back = names_behind (map as_family c.args.families.now) c.args.order.now c.args.name.now c.loop-place.place c.requires.order
      (All-map (λ (family : Family). family.desc.name ≢ c.args.name.now) as_family c.args.families.now c.requires.new)
      (omega arith) (search rules);
}

pub loop-place-preserved : goal.loop-place-preserved
loop-place-preserved c =
    AllWithin-more (λ i. IsBefore (family_at (map as_family c.args.families.now) i).desc.name c.args.name.now) c.args.order.now 0
    c.loop-place.place c.loop-place.invariant
    (before_at (map as_family c.args.families.now) c.args.order.now c.args.name.now c.loop-place.place (omega arith)
    (search rules))
