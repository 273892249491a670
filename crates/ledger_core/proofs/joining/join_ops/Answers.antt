use Rattle.ledger_core.proofs.Taking.{ups_pass, downs_pass}
use Rattle.ledger_core.proofs.joining.join_ops.Goals as goal

pub returns-in-None-sum : goal.returns-in-None-sum
returns-in-None-sum c =
    rw (c.in-Up.is, c.in-Up-first.is, c.if-other-gauge.true)
    (ups_pass c.in-Up.gauge c.in-Up-first.had c.in-Up.by c.in-None-sum.ensures)

pub returns-in-None-sum-2 : goal.returns-in-None-sum-2
returns-in-None-sum-2 c =
    rw (c.in-Down.is, c.in-Down-first.is, c.if-other-gauge-2.true)
    (downs_pass c.in-Down.gauge c.in-Down-first.had c.in-Down.by c.in-None-sum-2.ensures)
