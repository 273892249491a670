use Rattle.std.proofs.Common.{ℕ, false, List, length, sym, ap, ◌∙◌, subst}
use Rattle.register_rule.specs.declared.seats.WorkSeat.{WorkSeat}
use Rattle.register_rule.specs.declared.view.Member.{Member}
use Rattle.register_rule.specs.declared.view.ScanLog.{ScanLog}
use Rattle.register_rule.specs.declared.view.Who.TheVariants.{Worker}
use Rattle.register_rule.specs.Seats.{worker_of, index_of}
use Rattle.snapshot_update.specs.declared.buffer_images.BufferImages.{BufferImages}
use Rattle.snapshot_update.specs.Fit.{IsFitOfSeat, IsFit, HasSeenOwn}
use Rattle.snapshot_update.proofs.Lending.{same_seat, told_own}
use Rattle.snapshot_update.proofs.ScannedFit.{scanned_fit}
use Rattle.snapshot_update.proofs.worker.Worker.scan.Goals as goal

pub invariant_of-self : goal.invariant_of-self
invariant_of-self g c =
    let n : ℕ = g.row.N in let cs : ℕ = g.row.C in let hs : ℕ = g.row.H in let gs : ℕ = g.row.G in
    let s = c.scan_for_caller-end.new in let told = c.scan_for_caller-end.ensures in let w = c.args.self.now in
    let seat = c.in-Some.seat in
    let row : List ℕ = w.row.value in let im = w.images in let im' : BufferImages = record im {
      late = c.note_all.new.self;
      row_known = false;
      joined = false;
    } in
    let m : Member = worker_of seat in let scan : ScanLog = (worker_of s.seat).scan in
    let old = w.holds seat c.in-Some.is in
    let fit : IsFit n cs hs gs (index_of seat) (length m.work.made) row s.memory im'
    (record m { scan = scan })
    = scanned_fit n cs hs gs (index_of seat)
    (length m.work.made) row w.memory s.memory im c.note_all.new.self m scan old.2 told.ready c.note_all.ensures.all
    c.note_all.ensures.items in
    record {
      geometry = w.geometry;
      inside = w.inside;
      holds = λ x e. subst (λ (y : WorkSeat). IsFitOfSeat n cs hs gs w.index w.number row s.memory im' (index_of y) (worker_of y))
          (same_seat s.seat x e)
          (subst (λ (y : Member). IsFitOfSeat n cs hs gs w.index w.number row s.memory im'
          (index_of s.seat) y) (sym told.scans.others) (
            told.scans.index ∙ old.0,
            old.1,
            subst (λ (i : ℕ). IsFit n cs hs gs i (length m.work.made) row s.memory im'
                (record m { scan = scan })) (sym told.scans.index) fit,
          ));
      seen = λ x e. subst (λ (y : WorkSeat). HasSeenOwn w.index (worker_of y)) (same_seat s.seat x e)
          (told_own n cs hs gs w.index (worker_of s.seat)
          (ap (λ (y : Member). y.who) told.scans.others ∙ (old.2.who ∙ ap Worker old.0))
          told.scans.ruled);
    }
