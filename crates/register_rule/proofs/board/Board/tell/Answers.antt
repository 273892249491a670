use Rattle.std.proofs.Common.{rules}
use Rattle.register_rule.proofs.Keeping.{tell_allows}
use Rattle.register_rule.proofs.board.Board.tell.Goals as goal

pub load_as-requires : goal.load_as-requires
load_as-requires g c = (search rules, search rules, tell_allows _ _ _ _ _ _ _ _ c.args.place _ c.requires.inside (search rules))
