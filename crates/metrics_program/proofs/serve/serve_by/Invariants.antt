use Rattle.std.specs.Prelude.{Some}
use Rattle.metric_registry.specs.Naming.{name_of}
use Rattle.registry_state.specs.Journal.{changes}
use Rattle.metrics_program.proofs.serve.serve_by.Given as goal

-- the server's registry is of its board, and begins with what was registered before
abbrev pub ghosts-serve_counting : goal.ghosts-serve_counting
ghosts-serve_counting g a = record { board = Some (name_of a.board.now); first = changes a.service.registry.journal }
