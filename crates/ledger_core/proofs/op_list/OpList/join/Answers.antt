use Rattle.std.proofs.Common.{arith, ◌<◌, length}
use Rattle.ledger_core.specs.Joining.{with_amount}
use Rattle.ledger_core.proofs.Taking.{told_at, passes_at}
use Rattle.ledger_core.proofs.op_list.OpList.join.Goals as goal

pub returns-in-One-clause-taken : goal.returns-in-One-clause-taken
returns-in-One-clause-taken g c =
    let lt : c.args.hint < length c.args.self.now = omega arith in
    rw (c.raise.ensures c.get.result c.get.ensures.found)
    (told_at c.args.self.now c.args.hint c.get.result c.args.op (with_amount c.in-One.sum c.get.result) c.get.ensures.found lt
    c.in-One.ensures)

pub returns-in-TooLarge-clause-fault : goal.returns-in-TooLarge-clause-fault
returns-in-TooLarge-clause-fault g c =
    let lt : c.args.hint < length c.args.self.now = omega arith in
    passes_at c.args.self.now c.args.hint c.get.result c.args.op c.get.ensures.found lt c.in-TooLarge.ensures
