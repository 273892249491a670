use Rattle.std.proofs.Common.{rules, arith}
use Rattle.register_rule.proofs.Publish.{publish_allows}
use Rattle.register_rule.proofs.board.Board.publish.Goals as goal

pub store_as-requires : goal.store_as-requires
store_as-requires g c = (
  search rules,
  search rules,
  publish_allows _ _ _ _ _ _ _ _ _ c.args.seat.now.worker _ _ c.args.ops.now c.args.lends c.args.seat.now.alone
      c.args.seat.now.is (search rules) (search rules) (omega arith) c.requires.full c.requires.accepted,
)
