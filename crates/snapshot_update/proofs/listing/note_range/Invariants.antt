use Rattle.std.proofs.Common.{◌-◌}
use Rattle.snapshot_update.specs.Known.{NotesRange}
use Rattle.snapshot_update.proofs.listing.note_range.Given as goal

abbrev pub invariant-loop-item : goal.invariant-loop-item
invariant-loop-item l = NotesRange l.first (l.item - l.first) l.fn.to l.to
