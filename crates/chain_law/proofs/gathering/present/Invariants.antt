use Rattle.std.proofs.Common.{◌≡◌, ◌≢◌, ℕ, ◌<◌, true, false}
use mathlib.Core.Option.{some}
use lib.ListN.{get_elem?}
use Rattle.snapshot_update.specs.declared.worker.Worker.{Worker}
use Rattle.snapshot_update.specs.Workers.{index_of}
use Rattle.chain_law.specs.Settled.{HasIndex}
use Rattle.chain_law.proofs.gathering.present.Given as goal

abbrev pub invariant-loop-k : goal.invariant-loop-k
invariant-loop-k g l = (i : ℕ) → i < g.row.N
    → (get_elem? l.marks i ≡ some true → HasIndex l.workers i)
    × (get_elem? l.marks i ≡ some false → (p : ℕ) (w : Worker g.row.N g.row.C g.row.H g.row.G) → p < l.k
    → get_elem? l.workers p ≡ some w → index_of w ≢ i)
