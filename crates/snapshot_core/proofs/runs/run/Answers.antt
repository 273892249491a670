use Rattle.std.proofs.Common.{arith}
use Rattle.snapshot_core.specs.Machine.{world_of}
use Rattle.snapshot_core.proofs.ComesTo.{outcome_of}
use Rattle.snapshot_core.proofs.runs.run.Goals as goal

pub returns : goal.returns
returns g c =
    let low = c.if-n-lt1.false in let high = c.if-n-gt-MAX_WORKERS.false in
    let o = outcome_of g.row.C g.row.H g.row.G c.args.n c.args.events.now (omega arith) (omega arith)
    (world_of c.in_ok-machine.machine) c.in_ok-machine.ensures in record {
      fault = tt;
      workers = (omega arith, omega arith);
      faithful = o.faithful;
      one_step = o.steps;
      few = o.few;
      direct = o.direct;
      whole = o.whole;
    }
