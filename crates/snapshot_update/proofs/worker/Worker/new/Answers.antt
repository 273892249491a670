use Rattle.std.proofs.Common.{◌≡◌, ℕ, length, sym, ap, subst, arith}
use Rattle.register_rule.specs.declared.seats.WorkSeat.{WorkSeat}
use Rattle.register_rule.specs.declared.view.Member.{Member}
use Rattle.register_rule.specs.Seats.{worker_of, index_of}
use Rattle.snapshot_update.specs.Fit.{IsFitOfSeat, HasSeenOwn}
use Rattle.snapshot_update.proofs.FirstFit.{first_fit, first_seen}
use Rattle.snapshot_update.proofs.Lending.{same_seat}
use Rattle.snapshot_update.proofs.worker.Worker.new.Goals as goal

pub invariant_of-result : goal.invariant_of-result
invariant_of-result g c =
    let im = c.in-Ok.images in let seat : WorkSeat = c.args.seat in
    let index : c.worker-index.result ≡ index_of seat = c.worker-index.ensures.index in record {
      geometry = c.requires.geometry;
      inside = let lt = c.requires.inside in omega (arith, lt, index);
      holds = λ x e. subst (λ (s : WorkSeat). IsFitOfSeat g.row.N g.row.C g.row.H g.row.G c.worker-index.result 0
          c.in-Ok.row.value c.in-Ok.memory im (index_of s) (worker_of s))
          (same_seat seat x e) (
            sym index,
            sym (ap (λ (m : Member). length m.work.made) c.requires.fresh),
            first_fit g.row.N g.row.C g.row.H g.row.G (index_of seat) c.in-Ok.row.value c.in-Ok.memory im c.requires.inside
                c.in-Ok.ensures.row c.in-Ok.ensures.rows c.in-Ok.ensures.images (worker_of seat) c.requires.fresh,
          );
      seen = λ x e. subst (λ (s : WorkSeat). HasSeenOwn c.worker-index.result (worker_of s)) (same_seat seat x e)
          (subst (λ (i : ℕ). HasSeenOwn i (worker_of seat)) (sym index)
          (first_seen g.row.N g.row.C g.row.H g.row.G (index_of seat) (worker_of seat) c.requires.inside c.requires.fresh));
    }
