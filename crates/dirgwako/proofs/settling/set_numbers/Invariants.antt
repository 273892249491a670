use Rattle.std.proofs.Common.{◌≡◌, ℕ, ◌<◌, length}
use mathlib.Core.Option.{some}
use lib.ListN.{get_elem?}
use Rattle.snapshot_update.specs.Workers.{member_of}
use Rattle.dirgwako.specs.declared.recorder.Recorder.{Recorder}
use Rattle.dirgwako.specs.Recorders.{worker_in}
use Rattle.dirgwako.proofs.settling.set_numbers.Given as goal

abbrev pub invariant-loop-place : goal.invariant-loop-place
invariant-loop-place g l = record {
  all : length l.out.vector ≡ g.row.N;
  numbers : (i : ℕ) (r : Recorder g.row.N g.row.C g.row.H g.row.G) → i < l.place → get_elem? l.recorders i ≡ some r
      → get_elem? l.out.vector i ≡ some (length (member_of (worker_in r)).work.made);
}
