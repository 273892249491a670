-- What an update's plan says.
use Rattle.std.specs.Prelude.{Bool, true, false}
use Rattle.snapshot_scan.specs.ChangedItems.{ChangedView}
use Rattle.snapshot_update.specs.declared.buffer_images.BufferImages.{BufferImages}
use Rattle.snapshot_update.specs.declared.plan.Plan.{Plan}
use Rattle.snapshot_update.specs.declared.plan.Plan.TheVariants.{Repeats, Same, Known, Whole}

-- the late and the touched items are all at which the next version differs from the shown buffer
abbrev pub is_known : Plan → Bool
is_known Repeats = true
is_known Same = true
is_known Known = true
is_known Whole = false

-- and neither of these lists has changed
abbrev pub is_same : Plan → Bool
is_same Repeats = true
is_same Same = true
is_same Known = false
is_same Whole = false

-- and just their items are recent
abbrev pub is_repeat : Plan → Bool
is_repeat Repeats = true
is_repeat Same = false
is_repeat Known = false
is_repeat Whole = false

-- other items are late, and the images are the same else
abbrev pub with_late : ChangedView → BufferImages → BufferImages
with_late late im = record im { late = late }
