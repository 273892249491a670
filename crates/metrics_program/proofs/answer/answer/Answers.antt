use Rattle.metrics_program.proofs.Counting.{applied, not_served}
use Rattle.metrics_program.proofs.answer.answer.Goals as goal

pub returns-in-Ok-clause-counted : goal.returns-in-Ok-clause-counted
returns-in-Ok-clause-counted g c =
    applied c.args.board.now c.args.metrics.now c.args.worker.now c.apply.new.self c.in-Ok.served c.list.result c.apply.result
    c.apply.ensures.of_board
    c.apply.ensures.index c.list.ensures c.apply.ensures.lists c.apply.ensures.fault c.apply.ensures.unchanged

pub returns-in-Err-clause-counted : goal.returns-in-Err-clause-counted
returns-in-Err-clause-counted g c = not_served c.args.board.now c.args.metrics.now c.args.worker.now c.in-Err.fault c.requires
