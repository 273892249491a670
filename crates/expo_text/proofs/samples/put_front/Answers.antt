use Rattle.std.proofs.Common.{◌≡◌, length, arith}
use Rattle.std.specs.List.{zip}
use Rattle.std.proofs.lemmas.Slice.Zip.{length-zip}
use Rattle.expo_text.proofs.samples.put_front.Goals as goal

pub returns-clause-text : goal.returns-clause-text
returns-clause-text g c =
    let chain = g.met.S.Sink.chain in
    let labels = zip c.args.desc.now.labels c.args.values.now in
    let count : length c.args.values.now ≡ length labels = rw length-zip (omega (arith, c.requires)) in
    let name = rw (c.as_bytes.ensures.value, c.as_str.ensures.text, c.name.ensures) at c.put.ensures in
    let opened = rw c.labels.ensures.labels at c.put_opened.ensures.text in
    let mark = rw (c.as_bytes-2.ensures.value, c.mark.ensures, count) at c.put-3.ensures in
    chain _ _ _ _ _ (chain _ _ _ _ _ (chain _ _ _ _ _ (chain _ _ _ _ _ name c.put-2.ensures) opened) mark) c.put-4.ensures
