-- A worker of a board that stands in a struct.
use Rattle.std.specs.Prelude.{ℕ}
use Rattle.std.specs.Option.{IsSomeAnd-prop}
use Rattle.std.specs.Coded.{Coded-set, ×_prop, le_prop}
use Rattle.atomic_table.specs.Seated.{table_id_coded}
use Rattle.register_rule.specs.declared.board.Board.{Board}
use Rattle.register_rule.specs.Seats.{table_of, work_bundle, IsWorkSeatOf}
use Rattle.snapshot_update.specs.declared.worker.Worker.{Worker}
use Rattle.snapshot_update.specs.Workers.{IsWorkerOf}

-- that it is of the board has at most one proof
pub IsWorkerOf-prop : {N C H G : ℕ} (b : Board N C H G) (w : Worker N C H G) → IsProp (IsWorkerOf b w)
IsWorkerOf-prop b w = IsSomeAnd-prop w.seat (IsWorkSeatOf b)
    (λ s. ×_prop (Coded-set table_id_coded (table_of (work_bundle s)) b.table.shared.table_id) le_prop)
