use Rattle.std.specs.List.{zip}
use Rattle.expo_text.proofs.Rows.{counter-line}
use Rattle.expo_text.proofs.samples.put_counter.Goals as goal

pub returns-clause-text : goal.returns-clause-text
returns-clause-text g c =
    let line = counter-line c.args.desc.now (zip c.args.desc.now.labels c.args.values.now) c.args.total in
    let took = rw c.digits.ensures.digits at c.put_sample.ensures.text in
    rw line at took
