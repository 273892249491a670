use Rattle.std.specs.Prelude.{◌≡◌}
use Rattle.register_rule.specs.Members.{group, led, filled}
use Rattle.register_rule.proofs.board.Board.fill_at.Given as goal

abbrev pub ghosts-store_as : goal.ghosts-store_as
ghosts-store_as g a = record {
  then = λ st me n me'. (me'.0 ≡ group (led (filled a._about.now a.new) me.0.members))
      × (me'.1 ≡ me.1);
}
