use Rattle.std.specs.Prelude.{◌≡◌}
use Rattle.ledger_core.specs.Ops.{width, sum_ops}
use Rattle.ledger_core.specs.Row.{Accepts}
use Rattle.register_rule.specs.ScanSteps.{after}
use Rattle.register_rule.specs.Members.{group, led, scan_changed}
use Rattle.register_rule.specs.Told.{LoadTells, AreRuled}
use Rattle.register_rule.proofs.board.Board.load.Given as goal

abbrev pub ghosts-load_as : goal.ghosts-load_as
ghosts-load_as g a = record {
  then = λ st me n me'. (me'.0 ≡ group
      (led (scan_changed (after g.row.N (width g.row.C g.row.H g.row.G) a._about.now n)) me.0.members)) × (me'.1 ≡ me.1)
      × LoadTells (width g.row.C g.row.H g.row.G) a._about.now me.0.members n × AreRuled g.row.N (width g.row.C g.row.H g.row.G)
      (sum_ops g.row.C g.row.H) (Accepts g.row.C g.row.H g.row.G) me'.0.members;
}
