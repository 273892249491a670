use Rattle.std.proofs.Common.{arith}
use Rattle.ledger_core.specs.Ops.{width}
use Rattle.dirgwako_c.specs.Registries.{recorders_in}
use Rattle.dirgwako_c.specs.Settling.{seats_on, published_in}
use Rattle.page_crew.proofs.Places.{next_total}
use Rattle.dirgwako_c.proofs.settling.set_totals.Goals as goal

pub loop-word-preserved : goal.loop-word-preserved
loop-word-preserved g c =
    let wide = c.loop-word.invariant.wide in let lt = c.loop-word-test.true in let all = c.totals-word-end.ensures.all in
    next_total (published_in (seats_on c.args.board (recorders_in c.args.spare.now))) (width g.row.C g.row.H g.row.G) _
    c.loop-word.out c.set_total.new.self
    c.loop-word.word c.total_at.result c.set_total.ensures (omega (arith, lt, all, wide)) c.total_at.ensures.sum
    c.loop-word.invariant
