use Rattle.expo_text.specs.Shifted.{shifted}
use Rattle.std.specs.List.{zip}
use Rattle.expo_text.proofs.Rows.{gauge-line}
use Rattle.expo_text.proofs.samples.put_gauge.Goals as goal

pub returns-clause-text : goal.returns-clause-text
returns-clause-text g c =
    let line = gauge-line c.args.desc.now (zip c.args.desc.now.labels c.args.values.now) c.args.totals.now
    c.difference-size.result.0.now (shifted c.args.desc.now.digits c.difference-size.result.1)
    (c.difference-size.ensures.value c.args.desc.now.digits) in
    let value = rw c.digits.ensures.digits at c.put_value.ensures in
    let took = g.met.S.Sink.chain _ _ _ _ _ c.put_series.ensures.text value in
    rw line at took
