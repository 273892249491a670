use Rattle.std.proofs.Common.{◌≡◌, ◌<◌, ℕ, get_or}
use Rattle.snapshot_update.specs.BufferImages.{target_of}
use Rattle.snapshot_update.specs.Conditions.{HasFilled}
use Rattle.snapshot_update.specs.Noting.{SoFar}
use Rattle.snapshot_update.proofs.fills.fill_range.Given as goal

abbrev pub invariant-loop-item : goal.invariant-loop-item
invariant-loop-item g l = record {
  fills : HasFilled l.board l.hidden l.fn.seat l.seat;
  filled : (j : ℕ) → j < l.item → get_or l.hidden j 0 ≡ get_or (target_of l.version) j 0;
  noted : SoFar l.item l.recent l.shown (target_of l.version);
}
