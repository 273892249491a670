use Rattle.std.proofs.Common.{IfSome, subst}
use Rattle.std.proofs.lemmas.List.Elements.{All-pop}
use Rattle.snapshot_scan.specs.Readers.{IsReaderOf}
use Rattle.library_tests.proofs.crew.last_reader.Goals as goal

pub returns-clause-of_board : goal.returns-clause-of_board
returns-clause-of_board g c = subst (λ r. IfSome r (IsReaderOf c.args.board.now)) c.in-Some.is
    (All-pop (IsReaderOf c.args.board.now) c.args.readers.now.items c.pop.new.self.items c.pop.result c.pop.ensures.items
    c.requires.of_board).1

pub returns-clause-others : goal.returns-clause-others
returns-clause-others g c =
    (All-pop (IsReaderOf c.args.board.now) c.args.readers.now.items c.pop.new.self.items c.pop.result c.pop.ensures.items
    c.requires.of_board).0
