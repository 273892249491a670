use Rattle.std.proofs.Common.{◌≡◌, ℕ, ◌+◌, ◌≤◌, Some, length}
use Rattle.std.specs.Prelude.{slice_get, vec_capacity}
use Rattle.snapshot_scan.specs.Snapshots.{Taken}
use Rattle.page_crew.specs.Settling.{IsExactOn}
use Rattle.page_crew.proofs.owner.PageCrew.settle.Given as goal

abbrev pub invariant-loop-number : goal.invariant-loop-number
invariant-loop-number g l = record {
  many : length l.boards.items ≡ l.number;
  room : l.many ≤ vec_capacity l.boards;
  each : (k : ℕ) (taken : Taken) → slice_get l.boards.items k ≡ Some taken → IsExactOn (l.self.first + k) l.recorders taken;
}
