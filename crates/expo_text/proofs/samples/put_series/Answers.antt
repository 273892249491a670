use Rattle.expo_text.proofs.samples.put_series.Goals as goal

pub returns-clause-text : goal.returns-clause-text
returns-clause-text g c =
    let chain = g.met.S.Sink.chain in
    let name = rw (c.as_bytes.ensures.value, c.as_str.ensures.text, c.name.ensures) at c.put.ensures in
    let suffix = rw c.as_bytes-2.ensures.value at c.put-2.ensures in
    let labels = rw c.labels.ensures.labels at c.put_labels.ensures.text in
    chain _ _ _ _ _ (chain _ _ _ _ _ name suffix) labels
