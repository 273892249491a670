use Rattle.expo_text.proofs.samples.put_bucket.Goals as goal

pub returns : goal.returns
returns g c =
    let chain = g.met.S.Sink.chain in
    chain _ _ _ _ _ (chain _ _ _ _ _ (chain _ _ _ _ _ (chain _ _ _ _ _ c.put.ensures c.put_shifted.ensures) c.put-2.ensures)
    c.put_decimal.ensures) c.put-3.ensures
