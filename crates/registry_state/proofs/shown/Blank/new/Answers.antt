use Rattle.registry_state.proofs.Ordered.{order_below}
use Rattle.registry_state.proofs.shown.Blank.new.Goals as goal

pub blank_families-requires : goal.blank_families-requires
blank_families-requires c = order_below c.args.families.now c.args.order.now c.requires
