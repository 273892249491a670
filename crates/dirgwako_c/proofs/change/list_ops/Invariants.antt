use Rattle.std.proofs.Common.{◌≡◌, All, take, map, length, Some}
use Rattle.dirgwako_c.specs.Changes.{op_in, IsOf}
use Rattle.dirgwako_c.proofs.change.list_ops.Given as goal

abbrev pub invariant-loop-place : goal.invariant-loop-place
invariant-loop-place l = record {
  room : length l.list ≡ length l.fn.list;
  listed : map Some (take l.place l.list) ≡ take l.place (map op_in l.changes);
  of_it : All (IsOf l.registry) (take l.place l.changes);
}
