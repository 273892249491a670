use Rattle.std.proofs.Common.{◌≡◌, ◌++◌, map}
use Rattle.std.specs.Vec.Iter.{into_iter_items}
use Rattle.dirgwako_c.specs.Registries.{recorder_in, recorders_in}
use Rattle.dirgwako_c.proofs.opening.spare_of.Given as goal

abbrev pub invariant-loop-recorder : goal.invariant-loop-recorder
invariant-loop-recorder g l = map recorder_in (recorders_in l.spare) ++ into_iter_items l.recorder-iterator ≡ l.fn.recorders.items
