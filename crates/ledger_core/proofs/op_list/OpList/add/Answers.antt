use Rattle.ledger_core.proofs.Taking.{passes_alone}
use Rattle.ledger_core.proofs.op_list.OpList.add.Goals as goal

pub returns-then-amount-gt-MAX_WORD-clause-fault :
    goal.returns-then-amount-gt-MAX_WORD-clause-fault
returns-then-amount-gt-MAX_WORD-clause-fault g c = passes_alone c.args.self.now c.args.op
    (rw (← c.amount.ensures) c.if-amount-gt-MAX_WORD.true)
