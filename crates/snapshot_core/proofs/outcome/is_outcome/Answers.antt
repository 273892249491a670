use Rattle.std.proofs.Common.{map}
use Rattle.snapshot_core.specs.Turns.{answered_of, published_of}
use Rattle.snapshot_core.proofs.Decided.{decided}
use Rattle.snapshot_core.proofs.outcome.is_outcome.Goals as goal

pub returns-clause-decided : goal.returns-clause-decided
returns-clause-decided g c =
    let trace = c.args.trace.now in
    let came = c.in_ok-came.came in
    let run = c.in_ok-came.ensures in
    decided c.args.n g.row.C g.row.H g.row.G c.args.events.now (map published_of trace.publishes.items)
    (map published_of came.publishes.items) (map answered_of trace.answers.items) (map answered_of came.answers.items)
    c.same_trace.result
    (record { faithful = run.faithful; steps = run.one_step; few = run.few; direct = run.direct; whole = run.whole })
    c.same_trace.ensures
