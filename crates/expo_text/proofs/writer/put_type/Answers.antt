use Rattle.expo_text.proofs.writer.put_type.Goals as goal

pub returns-clause-text : goal.returns-clause-text
returns-clause-text g c =
    let chain = g.met.S.Sink.chain in
    let name = rw (c.as_bytes.ensures.value, c.as_str.ensures.text, c.name.ensures) at c.put-2.ensures in
    let kind = rw (c.word.ensures, c.kind.ensures) at c.put-4.ensures in
    chain _ _ _ _ _ (chain _ _ _ _ _ (chain _ _ _ _ _ (chain _ _ _ _ _ c.put.ensures name) c.put-3.ensures) kind) c.put-5.ensures
