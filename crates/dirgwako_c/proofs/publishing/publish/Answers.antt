use Rattle.dirgwako_c.proofs.Listing.{publishes_none}
use Rattle.dirgwako_c.proofs.publishing.publish.Goals as goal

pub returns-in-Err : goal.returns-in-Err
returns-in-Err g c = publishes_none _ c.args.changes.now _ c.in-Err.number c.args.held.now.recorder c.in-Err.ensures.fault
