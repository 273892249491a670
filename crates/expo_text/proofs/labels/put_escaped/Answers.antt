use Rattle.std.proofs.Common.{refl, arith}
use Rattle.metric_names.specs.ByteText.{byte_text}
use Rattle.expo_text.proofs.Runs.{run-kept, run-written, run-begun, run-last}
use Rattle.expo_text.proofs.labels.put_escaped.Goals as goal
use Rattle.expo_text.proofs.labels.put_escaped.Goals.{in-Some, in_default}

pub loop-at-preserved : goal.loop-at-preserved
loop-at-preserved g c =
    let f = byte_text c.args.quoted in
    let bytes = c.args.bytes.now in
    let before = c.loop-at.invariant in
    let test = c.loop-at-test.true in
    elim c.match-escape.branch [
      | in-Some w ↦
          let chain = g.met.S.Sink.chain in
          let all = run-written f bytes _ _ _ test w.in-Some.ensures before.2 in
          let took = chain _ _ _ _ _ (chain _ _ _ _ _ before.1 w.put.ensures) w.put-in-Some.ensures in
          rw (w.sink-is, w.start-is) (omega arith, rw all at took, run-begun f bytes _ _ refl)
      | in_default w ↦ rw (w.sink-is, w.start-is) (
        omega (arith, before.0),
        before.1,
        run-kept f bytes _ _ before.0 test w.in_default.ensures before.2,
      )
    ]

pub returns : goal.returns
returns g c =
    let before = c.loop-at.invariant in
    let took = g.met.S.Sink.chain _ _ _ _ _ before.1 c.put-2.ensures in
    let all = run-last (byte_text c.args.quoted) c.args.bytes.now _ _ (omega (arith, c.loop-at-test.false, c.loop-at.auto.at-end))
    before.2 in
    rw all at took
