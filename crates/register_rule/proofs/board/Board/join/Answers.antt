use Rattle.std.proofs.Common.{rules, arith}
use Rattle.register_rule.proofs.Seating.{meet_joins, some_words}
use Rattle.register_rule.proofs.board.Board.join.Goals as goal

pub join_seat-requires : goal.join_seat-requires
join_seat-requires g c = (
  search rules,
  search rules,
  search rules,
  some_words _ _ _ c.args.self.now.sized.1 (let h = c.args.self.now.sized.0.workers.0 in omega arith),
  meet_joins _ _ _ _ _ _ _ _ _,
)
