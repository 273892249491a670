use Rattle.std.proofs.Common.{◌≡◌}
use Rattle.snapshot_core.specs.Machine.{world_of, world_at}
use Rattle.snapshot_core.proofs.machine.run_machine.Given as goal

abbrev pub invariant-loop-at : goal.invariant-loop-at
invariant-loop-at g l = record {
  same : l.machine.n ≡ l.n;
  world : world_of l.machine ≡ world_at g.row.C g.row.H g.row.G l.n l.events l.at;
}
