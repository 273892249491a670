use Rattle.std.proofs.Common.{◌<◌, ◌≡◌, length, take, arith}
use Rattle.std.specs.List.{zip}
use Rattle.std.proofs.lemmas.List.{take_all}
use Rattle.std.proofs.lemmas.Slice.Zip.{length-zip}
use Rattle.metric_names.specs.LabelName.{IsLabelName}
use Rattle.expo_text.specs.Spelled.{IsSpelledValue}
use Rattle.expo_text.proofs.Lines.{All-next}
use Rattle.expo_text.proofs.Braces.{opened-next}
use Rattle.expo_text.proofs.labels.put_opened.Goals as goal

pub loop-place-preserved : goal.loop-place-preserved
loop-place-preserved g c =
    let names = c.args.names.now in
    let values = c.args.values.now in
    let place = c.loop-place.place in
    let before = c.loop-place.invariant in
    let in_names = c.loop-place-test.true in
    let in_values : place < length values = omega (arith, in_names, c.requires) in
    let name_is = c.index-names-place.is in
    let value_is = c.index-values-place.is in
    let label = rw (c.mark.ensures, c.as_str.ensures.text) at c.put_label.ensures.text in
    let text = opened-next names values place _ _ in_names c.requires name_is value_is in
    let took = g.met.S.Sink.chain _ _ _ _ _ before.0 label in (
      rw text at took,
      All-next IsLabelName names place _ in_names name_is before.1 c.as_str.ensures.grammar,
      All-next IsSpelledValue values place _ in_values value_is before.2 c.put_label.ensures.value,
    )

pub returns : goal.returns
returns g c =
    let names = c.args.names.now in
    let values = c.args.values.now in
    let place = c.loop-place.place in
    let done = c.loop-place-test.false in
    let all_names : take place names ≡ names = take_all place names done in
    let all_values : take place values ≡ values = take_all place values (omega (arith, done, c.requires)) in
    let all : take place (zip names values) ≡ zip names values = take_all place (zip names values)
    (rw length-zip (omega (arith, done))) in
    let so_far = c.loop-place.invariant in
    record { text = rw all at so_far.0; names = rw all_names at so_far.1; values = rw all_values at so_far.2 }
