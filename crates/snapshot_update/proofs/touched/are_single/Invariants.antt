use Rattle.std.proofs.Common.{◌≡◌, ◌≢◌, ◌<◌, ℕ, take, get_or}
use Rattle.ledger_core.specs.Ops.{width, sum_ops}
use Rattle.snapshot_update.proofs.touched.are_single.Given as goal

abbrev pub invariant-loop-at : goal.invariant-loop-at
invariant-loop-at g l = record {
  rises : (k : ℕ) → ((q : ℕ) → q < l.at → get_or l.words q 0 ≢ k) → sum_ops g.row.C g.row.H (take l.at l.ops) k ≡ 0;
  inside : (q : ℕ) → q < l.at → get_or l.words q 0 < width g.row.C g.row.H g.row.G;
}
