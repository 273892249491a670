use Rattle.std.proofs.Common.{◌≡◌, ◌<◌, ◌≤◌, ◌+◌, ℕ, Contains, length, get_or}
use Rattle.snapshot_scan.specs.ChangedItems.{ListsChanges}
use Rattle.snapshot_scan.proofs.exchange.exchange_at.Given as goal

abbrev pub invariant-loop-item : goal.invariant-loop-item
invariant-loop-item l = record {
  done : (q : ℕ) → q < l.item-index → get_or l.old (get_or l.items q 0) 0 ≡ get_or l.new (get_or l.items q 0) 0;
  others : (k : ℕ) → ¬ (Contains l.items k) → get_or l.old k 0 ≡ get_or l.fn.old k 0;
  low : (k : ℕ) → k < length l.fn.totals → get_or l.old k 0 ≤ 281474976710655;
  sums : (k : ℕ) → k < length l.fn.totals → get_or l.totals k 0 + get_or l.fn.old k 0 ≡ get_or l.fn.totals k 0 + get_or l.old k 0;
  moves : ListsChanges (length l.fn.totals) l.fn.totals l.totals l.fn.changed_totals l.changed_totals;
}
