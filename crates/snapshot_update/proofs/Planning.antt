-- Which plan says what another one says.
use Rattle.std.proofs.Common.{◌≡◌, true, refl}
use Rattle.snapshot_update.specs.declared.plan.Plan.{Plan}
use Rattle.snapshot_update.specs.declared.plan.Plan.TheVariants.{Repeats, Same, Known, Whole}
use Rattle.snapshot_update.specs.Plans.{is_known, is_same, is_repeat}

pub repeat_same : (p : Plan) → is_repeat p ≡ true → is_same p ≡ true
repeat_same Repeats h = refl
repeat_same Same h = refl
repeat_same Known h = h
repeat_same Whole h = h

pub same_known : (p : Plan) → is_same p ≡ true → is_known p ≡ true
same_known Repeats h = refl
same_known Same h = refl
same_known Known h = refl
same_known Whole h = h
