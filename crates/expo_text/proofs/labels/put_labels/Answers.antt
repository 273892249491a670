use Rattle.std.proofs.Common.{◌≡◌, ◌++◌, length, sym, ap, ◌∙◌, arith}
use Rattle.std.specs.List.{zip}
use Rattle.std.proofs.lemmas.Slice.Zip.{length-zip}
use Rattle.expo_text.specs.Walk.{opened, closing}
use Rattle.expo_text.proofs.Braces.{labels_text-closed}
use Rattle.expo_text.proofs.labels.put_labels.Goals as goal

pub returns-clause-text : goal.returns-clause-text
returns-clause-text g c =
    let labels = zip c.args.names.now c.args.values.now in
    let count : length labels ≡ length c.args.names.now = rw length-zip (omega (arith, c.requires)) in
    let all = ap (λ n. opened labels ++ closing n) (sym count) ∙ labels_text-closed labels in
    let took = g.met.S.Sink.chain _ _ _ _ _ c.put_opened.ensures.text c.put_closing.ensures in
    rw all at took
