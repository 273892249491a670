use Rattle.std.proofs.Common.{◌≤◌, length, arith}
use Rattle.std.specs.List.{zip}
use Rattle.std.proofs.lemmas.Slice.Zip.{length-zip}
use Rattle.expo_text.proofs.Sizes.{zip-short, front-short}
use Rattle.expo_text.proofs.samples.spell.Goals as goal

pub returns-clause-front : goal.returns-clause-front
returns-clause-front c =
    let desc = c.args.desc.now in
    let labels = zip desc.labels c.args.values.now in
    let told = c.put_front.ensures in
    let each = zip-short desc.labels c.args.values.now told.names told.values in
    let few : length labels ≤ 8 = rw length-zip (omega (arith, c.requires, c.labels.ensures.desc_ok.labels_ok.few)) in
    let short = front-short desc.name labels told.name.short each few in
    rw c.clear.ensures.none at told.text.filled (omega (arith, short, c.clear.ensures.none, c.clear.ensures.room))
