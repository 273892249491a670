use Rattle.std.proofs.Common.{◌∙◌, ◌+◌, ap, sym, arith}
use Rattle.scrape_history.proofs.Historic.{changed_more, changed_within}
use Rattle.scrape_history.proofs.later.changed_to.Goals as goal

pub overflow_add-changed : goal.overflow_add-changed
overflow_add-changed c =
    let more = changed_more c.args.later.now.items c.loop-place.place c.index.result.now (omega arith) c.index.ensures in
    let within = changed_within (c.loop-place.place + 1) c.args.later.now.items in omega (arith, more, within)

pub loop-place-preserved : goal.loop-place-preserved
loop-place-preserved c =
    ap (λ n. n + c.index.result.now.changed) c.loop-place.invariant
    ∙ sym (changed_more c.args.later.now.items c.loop-place.place c.index.result.now (omega arith) c.index.ensures)
