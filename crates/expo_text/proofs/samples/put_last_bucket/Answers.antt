use Rattle.std.proofs.Common.{decimal}
use Rattle.expo_text.proofs.Rows.{last-parts}
use Rattle.expo_text.proofs.samples.put_last_bucket.Goals as goal

pub returns : goal.returns
returns g c =
    let chain = g.met.S.Sink.chain in
    let took = chain _ _ _ _ _ (chain _ _ _ _ _ (chain _ _ _ _ _ c.put.ensures c.put-2.ensures) c.put_decimal.ensures)
    c.put-3.ensures in
    let parts = last-parts c.args.front.now (decimal c.args.count) in
    rw parts at took
