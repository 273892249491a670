use Rattle.expo_text.proofs.writer.put_help_line.Goals as goal

pub returns : goal.returns
returns g c =
    let chain = g.met.S.Sink.chain in
    let name = rw c.as_bytes.ensures.value at c.put-2.ensures in
    let help = rw c.as_str.ensures.text at c.put_text.ensures in
    chain _ _ _ _ _ (chain _ _ _ _ _ (chain _ _ _ _ _ (chain _ _ _ _ _ c.put.ensures name) c.put-3.ensures) help) c.put-4.ensures
