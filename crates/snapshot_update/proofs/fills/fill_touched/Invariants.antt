use Rattle.std.proofs.Common.{◌≡◌, ◌<◌, ◌+◌, ℕ, length, get_or}
use Rattle.ledger_core.specs.Ops.{width}
use Rattle.segment_layout.specs.Layout.{depth}
use Rattle.snapshot_update.specs.Conditions.{HasFilled}
use Rattle.snapshot_update.specs.BufferImages.{target_of}
use Rattle.snapshot_update.proofs.fills.fill_touched.Given as goal

abbrev pub invariant-loop-word : goal.invariant-loop-word
invariant-loop-word g l = let w : ℕ = width g.row.C g.row.H g.row.G in record {
  fills : HasFilled l.board l.hidden l.fn.seat l.seat;
  deep : length l.hidden ≡ depth g.row.N w;
  inside : (k : ℕ) → k < length l.words → get_or l.words k 0 < w;
  rows : (k : ℕ) → k < l.word-index → get_or l.hidden (get_or l.words k 0) 0 ≡ get_or (target_of l.version) (get_or l.words k 0)
      0;
  totals : (k : ℕ) → k < l.word-index → get_or l.hidden (w + 1 + g.row.N + get_or l.words k 0) 0 ≡ get_or (target_of l.version)
      (w + 1 + g.row.N + get_or l.words k 0) 0;
  kept : (j : ℕ) → get_or l.fn.hidden j 0 ≡ get_or (target_of l.version) j 0
      → get_or l.hidden j 0 ≡ get_or (target_of l.version) j 0;
}
