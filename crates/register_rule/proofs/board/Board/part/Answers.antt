use Rattle.std.proofs.Common.{rules, arith}
use Rattle.register_rule.proofs.Seating.{part_splits, some_words}
use Rattle.register_rule.proofs.board.Board.part.Goals as goal

pub split_as-requires : goal.split_as-requires
split_as-requires g c = (
  search rules,
  some_words _ _ _ c.args.self.now.sized.1 (let h = c.args.self.now.sized.0.workers.0 in
      omega arith),
  part_splits _ _ _ _ _ _ _ _ c.requires.there,
)
