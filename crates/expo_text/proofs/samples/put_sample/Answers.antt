use Rattle.expo_text.proofs.samples.put_sample.Goals as goal

pub returns-clause-text : goal.returns-clause-text
returns-clause-text g c = g.met.S.Sink.chain _ _ _ _ _ c.put_series.ensures.text c.put_value.ensures
