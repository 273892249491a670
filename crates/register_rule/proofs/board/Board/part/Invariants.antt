use Rattle.register_rule.specs.Members.{group, picked, without}
use Rattle.register_rule.proofs.board.Board.part.Given as goal

abbrev pub ghosts-split_as : goal.ghosts-split_as
ghosts-split_as g a = record {
  left = λ v. group (without a._about.now v.members);
  right = λ v. group (picked a._about.now v.members);
}
