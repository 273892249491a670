use Rattle.std.proofs.Common.{rules}
use Rattle.register_rule.proofs.Keeping.{load_allows}
use Rattle.register_rule.proofs.board.Board.load.Goals as goal

pub load_as-requires : goal.load_as-requires
load_as-requires g c = (
  search rules,
  search rules,
  load_allows _ _ _ _ _ _ _ _ c.requires.of_board.1.0 c.requires.of_board.1.1 c.args.what _ c.requires.of_board.1.2
      c.requires.inside
      (search rules),
)
