use Rattle.std.proofs.Common.{◌≡◌, ℕ, ◌<◌, length}
use mathlib.Core.Option.{some}
use lib.ListN.{get_elem?}
use Rattle.snapshot_update.specs.Workers.{index_of, lists_of}
use Rattle.dirgwako_c.specs.Registries.{recorders_in}
use Rattle.dirgwako_c.specs.Settling.{OneWorker, seats_on, workers_of}
use Rattle.dirgwako_c.proofs.settling.set_numbers.Given as goal

abbrev pub invariant-loop-place : goal.invariant-loop-place
invariant-loop-place g l = record {
  all : length l.out.vector ≡ g.row.N;
  numbers : (p : ℕ) (w : OneWorker g.row.N g.row.C g.row.H g.row.G) → p < l.place → get_elem? (workers_of (seats_on l.board
      (recorders_in l.spare))) p ≡ some w
      → get_elem? l.out.vector (index_of w) ≡ some (length (lists_of w));
}
