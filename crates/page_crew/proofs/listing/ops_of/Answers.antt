use Rattle.std.proofs.Common.{rules, ◌<◌, length}
use Rattle.page_crew.specs.Changes.{op_in}
use Rattle.page_crew.proofs.Mapping.{more_set}
use Rattle.page_crew.proofs.listing.ops_of.Goals as goal

pub loop-at-preserved : goal.loop-at-preserved
loop-at-preserved g c =
    let inv = c.loop-at.invariant in
    let lt : c.loop-at.at < length c.args.changes.now = search rules in
    let room : c.loop-at.at < length c.loop-at.ops = search rules in
    record {
      long = search rules;
      made = more_set op_in c.args.changes.now c.loop-at.ops c.loop-at.at _ lt room inv.made;
    }
