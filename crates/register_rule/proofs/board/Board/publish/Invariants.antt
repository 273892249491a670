use Rattle.std.specs.Prelude.{◌≡◌}
use Rattle.ledger_core.specs.Ops.{width}
use Rattle.register_rule.specs.Members.{group, led, published}
use Rattle.register_rule.proofs.board.Board.publish.Given as goal

abbrev pub ghosts-store_as : goal.ghosts-store_as
ghosts-store_as g a = record {
  then =
      λ st me n me'. (me'.0 ≡ group
      (led (published (width g.row.C g.row.H g.row.G) a._about.now.0 a._about.now.1.now a._about.now.2) me.0.members))
      × (me'.1 ≡ me.1);
}
