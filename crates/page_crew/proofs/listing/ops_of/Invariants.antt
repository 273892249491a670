use Rattle.std.proofs.Common.{◌≡◌, map, take, length}
use Rattle.page_crew.specs.Changes.{op_in}
use Rattle.page_crew.proofs.listing.ops_of.Given as goal

abbrev pub invariant-loop-at : goal.invariant-loop-at
invariant-loop-at g l = record {
  long : length l.ops ≡ g.row.K;
  made : take l.at l.ops ≡ take l.at (map op_in l.changes);
}
