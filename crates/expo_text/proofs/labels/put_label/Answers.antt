use Rattle.expo_text.proofs.labels.put_label.Goals as goal

pub returns-clause-text : goal.returns-clause-text
returns-clause-text g c =
    let chain = g.met.S.Sink.chain in
    let mark = rw c.as_bytes.ensures.value at c.put.ensures in
    let name = rw c.as_bytes-2.ensures.value at c.put-2.ensures in
    let value = rw c.as_str.ensures.text at c.put_text.ensures in
    chain _ _ _ _ _ mark (chain _ _ _ _ _ (chain _ _ _ _ _ (chain _ _ _ _ _ name c.put-3.ensures) value) c.put-4.ensures)
