use Rattle.expo_text.proofs.samples.put_value.Goals as goal

pub returns : goal.returns
returns g c =
    let chain = g.met.S.Sink.chain in
    let blank = rw c.as_bytes.ensures.value at c.put.ensures in
    chain _ _ _ _ _ (chain _ _ _ _ _ blank c.put_shifted.ensures) c.put-2.ensures
