use Rattle.std.proofs.Common.{◌∙◌}
use Rattle.std.specs.Vec.Iter.{into_iter_items}
use Rattle.dirgwako_c.specs.Registries.{recorder_in, recorders_in}
use Rattle.snapshot_update.proofs.Seating.{one_over}
use Rattle.dirgwako_c.proofs.opening.spare_of.Goals as goal

pub loop-recorder-preserved : goal.loop-recorder-preserved
loop-recorder-preserved g c =
    one_over recorder_in (recorders_in c.loop-recorder.spare) (recorders_in c.put.new.self) c.in_ok-boxed.field-0.value
    (into_iter_items c.loop-recorder.recorder-iterator) (into_iter_items c.next.new.self) c.in-Some.recorder
    c.in-Ok.ensures.taken.0 c.in-Some.ensures.steps.0 c.in_ok-boxed.ensures ∙ c.loop-recorder.invariant
