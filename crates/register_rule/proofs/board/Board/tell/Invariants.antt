use Rattle.std.specs.Prelude.{◌≡◌}
use Rattle.ledger_core.specs.Ops.{width, sum_ops}
use Rattle.ledger_core.specs.Row.{Accepts}
use Rattle.register_rule.specs.Told.{IsNumber, AreRuledAt}
use Rattle.register_rule.proofs.board.Board.tell.Given as goal

abbrev pub ghosts-load_as : goal.ghosts-load_as
ghosts-load_as g a = record {
  then = λ st me n me'. (me'.0 ≡ me.0) × (me'.1 ≡ me.1) × IsNumber a._about.now me.0.members n
      × AreRuledAt g.row.N (width g.row.C g.row.H g.row.G) (sum_ops g.row.C g.row.H) (Accepts g.row.C g.row.H g.row.G)
      a._about.now me.0.members n;
}
