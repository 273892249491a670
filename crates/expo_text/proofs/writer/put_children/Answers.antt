use Rattle.expo_text.specs.Spelled.{IsSpelledChild}
use Rattle.expo_text.proofs.Lines.{lines-next, All-next}
use Rattle.expo_text.proofs.writer.put_children.Goals as goal

pub loop-child-preserved : goal.loop-child-preserved
loop-child-preserved g c =
    let children = c.args.children.now in
    let n = c.loop-child.child-index in
    let before = c.loop-child.invariant in
    let within = c.loop-child-test.true in
    let next = lines-next c.args.desc.now children n _ within c.child-item.is in
    let took = g.met.S.Sink.chain _ _ _ _ _ before.0 c.put_child.ensures.text in (
      rw next took,
      All-next IsSpelledChild children n _ within c.child-item.is before.1 c.put_child.ensures.spelled,
      λ _. c.put_child.ensures.names,
    )
