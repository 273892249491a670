use Rattle.snapshot_update.proofs.Giving.{first_moved}
use Rattle.snapshot_update.proofs.scanning.scan_for_update.Goals as goal

pub returns-clause-gave_up : goal.returns-clause-gave_up
returns-clause-gave_up g c = λ t. let up = c.scan.ensures.gave_up t in let e = first_moved _ _ _ _ _ up in
    (e.0, record { first = _; last = _; gave_up = up; moved = e.1 }, c.scan.ensures.came_up t e.0 e.1)
