use Rattle.std.proofs.Common.{◌≡◌, ℕ, ◌<◌, ◌≤◌}
use mathlib.Core.Option.{some}
use lib.ListN.{get_elem?}
use Rattle.register_rule.specs.declared.view.Member.{Member}
use Rattle.register_rule.specs.Seats.{table_of}
use Rattle.snapshot_scan.specs.Lent.{IsWorkerAmong}
use Rattle.snapshot_scan.specs.Readers.{members_with, bundle_of, scan_by, index_of}
use Rattle.snapshot_update.specs.declared.worker.Worker.{Worker}
use Rattle.snapshot_update.specs.Workers.{IsLentAs}
use Rattle.snapshot_update.specs.Workers.{IsWorkerOf, index_of as worker_index}
use Rattle.chain_law.specs.Lent.{AreBackFrom, HaveLeft}
use Rattle.chain_law.proofs.gathering.take_all.Given as goal

abbrev pub invariant-loop-k : goal.invariant-loop-k
invariant-loop-k g l = record {
  table : table_of (bundle_of l.reader) ≡ table_of (bundle_of l.fn.reader);
  index : index_of l.reader ≡ index_of l.fn.reader;
  scan : scan_by l.reader ≡ scan_by l.fn.reader;
  free : (p : ℕ) (w : Worker g.row.N g.row.C g.row.H g.row.G) → p < l.k → get_elem? l.workers p ≡ some w
      → IsWorkerOf l.fn.board w;
  back : AreBackFrom l.k l.fn.workers l.workers l.fn.reader;
  left : HaveLeft l.k l.fn.workers l.fn.reader l.reader;
  lent : (p : ℕ) (w : Worker g.row.N g.row.C g.row.H g.row.G) → l.k ≤ p → get_elem? l.workers p ≡ some w → (m : Member)
      × IsLentAs m w l.reader × IsWorkerAmong (worker_index w) m (members_with l.fn.reader);
  others : (p : ℕ) → l.k ≤ p → get_elem? l.workers p ≡ get_elem? l.fn.workers p;
}
