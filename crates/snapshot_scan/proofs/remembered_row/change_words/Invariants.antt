use Rattle.std.proofs.Common.{◌≡◌, ◌<◌, ◌≤◌, ◌+◌, ℕ, Contains, get_or}
use Rattle.ledger_core.specs.Ops.{width}
use Rattle.snapshot_scan.proofs.remembered_row.change_words.Given as goal

abbrev pub invariant-loop-item : goal.invariant-loop-item
invariant-loop-item g l = record {
  done : (q : ℕ) → q < l.item-index → get_or l.old (get_or l.items q 0) 0 ≡ get_or l.row (get_or l.items q 0) 0;
  others : (k : ℕ) → ¬ (Contains l.items k) → get_or l.old k 0 ≡ get_or l.fn.old k 0;
  low : (k : ℕ) → k < width g.row.C g.row.H g.row.G → get_or l.old k 0 ≤ 281474976710655;
  sums : (k : ℕ) → k < width g.row.C g.row.H g.row.G → get_or l.totals k 0 + get_or l.fn.old k 0 ≡ get_or l.fn.totals k 0 + get_or
      l.old k 0;
}
