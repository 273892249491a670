use Rattle.expo_text.specs.Spelled.{IsSpelledIfPrinted}
use Rattle.expo_text.specs.Shown.{shown_group_text}
use Rattle.expo_text.proofs.Lines.{flat_map-next, All-next}
use Rattle.expo_text.proofs.writer.put_groups.Goals as goal

pub loop-family-preserved : goal.loop-family-preserved
loop-family-preserved g c =
    let families = c.families-family-items.result.now in
    let n = c.loop-family.family-index in
    let before = c.loop-family.invariant in
    let within = c.loop-family-test.true in
    let next = flat_map-next shown_group_text families n _ within c.family-item.is in
    let took = g.met.S.Sink.chain _ _ _ _ _ before.0 c.put_group.ensures.text in
    (rw next took, All-next IsSpelledIfPrinted families n _ within c.family-item.is before.1 c.put_group.ensures.spelled)
