-- What the server makes before it serves.
use Rattle.std.specs.Prelude.{◌≡◌}
use Rattle.register_rule.specs.Seats.{board_id}
use Rattle.register_rule.specs.declared.board.Board.{Board}
use Rattle.snapshot_scan.specs.Scanners.{board_in}
use Rattle.snapshot_scan.specs.declared.scanner.Scanner.{Scanner}
use Rattle.registry_state.specs.Kept.{RegistryView}
use Rattle.registry_state.specs.Replay.{Replays}
use Rattle.metrics_program.specs.Counted.{AreSix}
use Rattle.metrics_program.specs.Families.{AreRegistered}
use Rattle.metrics_program.specs.declared.metrics.Metrics.{Metrics}

-- the registry scans what it scanned, and its handles have the id that they had
pub record IsSameBoard {S : Type 0} (old new : RegistryView S) : Type 0 where
  pub source : new.source ≡ old.source
  pub id : new.id ≡ old.id

-- the registry is of this board, its journal replays to what it holds, and these are the server's metrics in it: six counters of
-- the board's, no two of which are one, each that of the child of its code, and the histogram of the bytes
pub record IsService (b : Board 4 64 8 16) (registry : RegistryView (Scanner 4 64 8 16)) (m : Metrics) : Type 0 where
  pub scans : board_in registry.source ≡ b
  pub id : registry.id ≡ board_id b
  pub replays : Replays 4 64 8 16 registry.journal registry.state
  pub six : AreSix m
  pub registered : AreRegistered registry.id registry.state.families m
