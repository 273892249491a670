use Rattle.std.proofs.Common.{◌≡◌, ◌≢◌, ℕ, ◌<◌, true, false, length}
use mathlib.Core.Option.{some}
use lib.ListN.{get_elem?}
use Rattle.snapshot_update.specs.Workers.{index_of}
use Rattle.dirgwako_c.specs.Registries.{recorders_in}
use Rattle.dirgwako_c.specs.Settling.{OneWorker, seats_on, workers_of}
use Rattle.dirgwako_c.proofs.settling.mark.Given as goal

abbrev pub invariant-loop-place : goal.invariant-loop-place
invariant-loop-place g l = record {
  all : length l.marks ≡ g.row.N;
  marked : (i : ℕ) → i < g.row.N → get_elem? l.marks i ≡ some true
      → (p : ℕ) × (w : OneWorker g.row.N g.row.C g.row.H g.row.G) × (p < l.place) × (get_elem? (workers_of (seats_on l.board
      (recorders_in l.spare))) p ≡ some w) × (index_of w ≡ i);
  unmarked : (i : ℕ) → i < g.row.N → get_elem? l.marks i ≡ some false → (p : ℕ) (w : OneWorker g.row.N g.row.C g.row.H g.row.G) →
      p < l.place
      → get_elem? (workers_of (seats_on l.board (recorders_in l.spare))) p ≡ some w → index_of w ≢ i;
  once : (p q : ℕ) (v w : OneWorker g.row.N g.row.C g.row.H g.row.G) → p < q → q < l.place → get_elem? (workers_of (seats_on
      l.board (recorders_in l.spare))) p ≡ some v
      → get_elem? (workers_of (seats_on l.board (recorders_in l.spare))) q ≡ some w → index_of v ≢ index_of w;
}
