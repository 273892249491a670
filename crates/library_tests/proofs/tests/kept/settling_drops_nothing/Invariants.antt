use Rattle.std.specs.Prelude.{Some, []}
use Rattle.metric_registry.specs.Naming.{name_of}
use Rattle.library_tests.proofs.tests.kept.settling_drops_nothing.Given as goal

-- the registry is of the crew's board, and nothing was registered before
abbrev pub ghosts-settles : goal.ghosts-settles
ghosts-settles g a = record { board = Some (name_of a.board.now); first = [] }
