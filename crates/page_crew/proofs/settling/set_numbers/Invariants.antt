use Rattle.std.proofs.Common.{◌≡◌, ℕ, ◌<◌, length}
use mathlib.Core.Option.{some}
use lib.ListN.{get_elem?}
use Rattle.snapshot_update.specs.Workers.{member_of}
use Rattle.page_crew.specs.Settling.{CountsWith}
use Rattle.page_crew.specs.Shared.{worker_in}
use Rattle.page_crew.specs.declared.page_recorder.PageRecorder.{PageRecorder}
use Rattle.page_crew.specs.declared.shared_recorder.SharedRecorder.{SharedRecorder}
use Rattle.page_crew.proofs.settling.set_numbers.Given as goal

abbrev pub invariant-loop-place : goal.invariant-loop-place
invariant-loop-place g l = record {
  all : length l.out.vector ≡ g.row.N;
  numbers : (i : ℕ) (r : PageRecorder g.row.N g.row.C g.row.H g.row.G) (s : SharedRecorder g.row.N g.row.C g.row.H g.row.G) → i <
      l.place
      → get_elem? l.recorders i ≡ some r → CountsWith l.board r s
      → get_elem? l.out.vector i ≡ some (length (member_of (worker_in s)).work.made);
}
