use Rattle.expo_text.proofs.Rows.{buckets-next}
use Rattle.expo_text.proofs.samples.put_buckets.Goals as goal

pub loop-place-preserved : goal.loop-place-preserved
loop-place-preserved g c =
    let next = buckets-next c.args.front.now c.args.digits c.args.bounds.now c.args.cumulated.now c.loop-place.place in
    let took = g.met.S.Sink.chain _ _ _ _ _ c.loop-place.invariant c.put_bucket.ensures in
    rw next at took
