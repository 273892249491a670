use Rattle.std.proofs.Common.{IfSome, subst}
use Rattle.std.proofs.lemmas.List.Elements.{All-pop}
use Rattle.snapshot_update.specs.Workers.{IsWorkerOf}
use Rattle.library_tests.proofs.crew.last_worker.Goals as goal

pub returns-clause-of_board : goal.returns-clause-of_board
returns-clause-of_board g c = subst (λ w. IfSome w (IsWorkerOf c.args.board.now)) c.in-Some.is
    (All-pop (IsWorkerOf c.args.board.now) c.args.workers.now.items c.pop.new.self.items c.pop.result c.pop.ensures.items
    c.requires.of_board).1

pub returns-clause-others : goal.returns-clause-others
returns-clause-others g c =
    (All-pop (IsWorkerOf c.args.board.now) c.args.workers.now.items c.pop.new.self.items c.pop.result c.pop.ensures.items
    c.requires.of_board).0
