use Rattle.std.proofs.Common.{rules}
use Rattle.register_rule.proofs.Start.{starts}
use Rattle.register_rule.proofs.board.Board.new.Goals as goal

pub of_words-requires : goal.of_words-requires
of_words-requires g c = starts _ _ _ _ _ _ _ (search rules) (search rules)
