use Rattle.std.proofs.Common.{ap, ◌∙◌, subst}
use Rattle.register_rule.specs.declared.seats.WorkSeat.{WorkSeat}
use Rattle.register_rule.specs.declared.view.Who.TheVariants.{Worker}
use Rattle.register_rule.specs.Seats.{worker_of}
use Rattle.snapshot_update.specs.Fit.{HasSeenOwn}
use Rattle.snapshot_update.specs.Updated.{IsUpdated}
use Rattle.snapshot_update.proofs.Lending.{same_seat, updated_own}
use Rattle.snapshot_update.proofs.worker.Worker.apply.Goals as goal

pub invariant_of-self-2-clause-seen : goal.invariant_of-self-2-clause-seen
invariant_of-self-2-clause-seen g c = λ x e.
    let w = c.args.self.now in let seat : WorkSeat = c.in-Some.seat in let new : WorkSeat = c.update.new.seat in
    let held = w.holds seat c.in-Some.is in
    subst (λ (y : WorkSeat). HasSeenOwn w.index (worker_of y)) (same_seat new x e)
    (updated_own g.row.N g.row.C g.row.H g.row.G w.index c.args.ops.now (worker_of seat) (worker_of new)
    (held.2.who ∙ ap Worker held.0)
    (subst (λ (i : _). IsUpdated g.row.N g.row.C g.row.H g.row.G i c.args.ops.now (worker_of seat) (worker_of new)) held.0
    c.in_default-update.ensures.updated))
