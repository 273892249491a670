use Rattle.std.proofs.Common.{◌≡◌, ◌<◌, ℕ, length, get_or}
use Rattle.ledger_core.specs.Ops.{width}
use Rattle.segment_layout.specs.Layout.{depth}
use Rattle.snapshot_update.specs.Conditions.{HasFilled}
use Rattle.snapshot_update.specs.BufferImages.{target_of}
use Rattle.snapshot_update.proofs.fills.fill_changes.Given as goal

abbrev pub invariant-loop-item : goal.invariant-loop-item
invariant-loop-item g l = record {
  fills : HasFilled l.board l.hidden l.fn.seat l.seat;
  deep : (length l.hidden ≡ depth g.row.N (width g.row.C g.row.H g.row.G))
      × (length (target_of l.version) ≡ depth g.row.N (width g.row.C g.row.H g.row.G));
  inside : (k : ℕ) → k < length l.items → get_or l.items k 0 < depth g.row.N (width g.row.C g.row.H g.row.G);
  filled : (k : ℕ) → k < l.item-index → get_or l.hidden (get_or l.items k 0) 0 ≡ get_or (target_of l.version) (get_or l.items k 0)
      0;
  kept : (j : ℕ) → get_or l.fn.hidden j 0 ≡ get_or (target_of l.version) j 0
      → get_or l.hidden j 0 ≡ get_or (target_of l.version) j 0;
}
