use Rattle.std.proofs.Common.{rules, ◌≡◌, ℕ, List, [], ◌∷◌, length, sym, ap, ◌∙◌, subst}
use mathlib.Core.Option.{some}
use lib.ListN.{get_elem?}
use Rattle.register_rule.specs.declared.seats.Bundle.{Bundle}
use Rattle.register_rule.specs.declared.seats.WorkSeat.{WorkSeat}
use Rattle.register_rule.specs.declared.view.PublishEntry.{PublishEntry}
use Rattle.register_rule.specs.declared.view.Member.{Member}
use Rattle.register_rule.specs.Members.{first_of}
use Rattle.register_rule.specs.Seats.{worker_of, index_of, members_of}
use Rattle.snapshot_scan.specs.Lent.{IsWorkerAmong}
use Rattle.snapshot_scan.specs.Readers.{members_with}
use Rattle.register_rule.specs.Rule.{AreApart}
use Rattle.snapshot_scan.specs.Shape.{scan_of}
use Rattle.snapshot_scan.proofs.Standing.{sees_still}
use Rattle.snapshot_update.specs.Fit.{IsFitOfSeat, HasSeenOwn}
use Rattle.snapshot_update.proofs.Lending.{one_picked, same_seat}
use Rattle.snapshot_update.proofs.worker.Worker.take_back.Goals as goal

-- it stands there still, after the load that changes nothing
still : (i : ℕ) (m : Member) (ms ms' : List Member) → ms' ≡ ms → IsWorkerAmong i m ms → IsWorkerAmong i m ms'
still i m ms ms' same (p, e, is) = (p, ap (λ (l : List Member). get_elem? l p) same ∙ e, is)

pub release-bundle-requires : goal.release-bundle-requires
release-bundle-requires g c =
    let i : ℕ = c.args.self.now.index in let m = c.requires.lent.0 in let old = members_with c.args.reader.now in
    let new = members_with c.tell.new.self in (
      search rules,
      (
        search rules,
        (
          c.tell.ensures.of_board,
          (
            m,
            one_picked i m new c.tell.ensures.ruled.apart (still i m old new c.tell.ensures.same c.requires.lent.1.there),
          ),
        ),
      ),
    )

pub into_work-requires-clause-one : goal.into_work-requires-clause-one
into_work-requires-clause-one g c =
    let i : ℕ = c.args.self.now.index in let m = c.requires.lent.0 in let old = members_with c.args.reader.now in
    let new = members_with c.tell.new.self in
    let one : members_of c.release-bundle.result ≡ m ∷ [] = c.release-bundle.ensures.one
    ∙ one_picked i m new c.tell.ensures.ruled.apart (still i m old new c.tell.ensures.same c.requires.lent.1.there) in
    one ∙ sym (ap (λ (l : List Member). first_of l ∷ []) one)

pub into_work-requires-clause-is : goal.into_work-requires-clause-is
into_work-requires-clause-is g c =
    let i : ℕ = c.args.self.now.index in let m = c.requires.lent.0 in let old = members_with c.args.reader.now in
    let new = members_with c.tell.new.self in
    let one : members_of c.release-bundle.result ≡ m ∷ [] = c.release-bundle.ensures.one
    ∙ one_picked i m new c.tell.ensures.ruled.apart (still i m old new c.tell.ensures.same c.requires.lent.1.there) in
    ap (λ (l : List Member). (first_of l).who) one ∙ c.requires.lent.1.there.2

pub into_work-requires-clause-counts : goal.into_work-requires-clause-counts
into_work-requires-clause-counts g c =
    let i : ℕ = c.args.self.now.index in let m = c.requires.lent.0 in let old = members_with c.args.reader.now in
    let new = members_with c.tell.new.self in
    let one : members_of c.release-bundle.result ≡ m ∷ [] = c.release-bundle.ensures.one
    ∙ one_picked i m new c.tell.ensures.ruled.apart (still i m old new c.tell.ensures.same c.requires.lent.1.there) in
    c.requires.lent.1.fits.1 ∙ sym (ap (λ (l : List Member). length (first_of l).work.made) one)

pub invariant_of-self : goal.invariant_of-self
invariant_of-self g c =
    let w = c.args.self.now in let im = w.images in
    let i : ℕ = w.index in let m = c.requires.lent.0 in let old = members_with c.args.reader.now in
    let new = members_with c.tell.new.self in
    let stands = still i m old new c.tell.ensures.same c.requires.lent.1.there in
    let one : members_of c.release-bundle.result ≡ m ∷ [] = c.release-bundle.ensures.one
    ∙ one_picked i m new c.tell.ensures.ruled.apart stands in
    let seat : WorkSeat = c.into_work.result in
    let is : worker_of seat ≡ m = ap (λ (b : Bundle). first_of (members_of b)) c.into_work.ensures.same ∙ ap first_of one in
    let own = c.tell.ensures.ruled.workers stands.0 i m stands.1 stands.2 in record {
      geometry = w.geometry;
      inside = w.inside;
      holds = λ x e. subst (λ (y : WorkSeat). IsFitOfSeat g.row.N g.row.C g.row.H g.row.G i w.number w.row.value w.memory im
          (index_of y) (worker_of y)) (same_seat seat x e)
          (subst (λ (k : ℕ). IsFitOfSeat g.row.N g.row.C g.row.H g.row.G i w.number w.row.value w.memory im k
          (worker_of seat)) (sym c.into_work.ensures.worker)
          (subst (IsFitOfSeat g.row.N g.row.C g.row.H g.row.G i w.number w.row.value w.memory im i)
          (sym is) c.requires.lent.1.fits));
      seen = λ x e. subst (λ (y : WorkSeat). HasSeenOwn i (worker_of y)) (same_seat seat x e)
          (subst (HasSeenOwn i) (sym is) (own.2 ∙ ap (λ (l : List PublishEntry). some (length l)) (sym own.1)));
    }

pub returns-clause-scans : goal.returns-clause-scans
returns-clause-scans g c =
    let r = c.tell.new.self in
    ap scan_of c.release-bundle.ensures.others
    ∙ (sees_still c.args.self.now.index r.index (members_with r) r.leads r.is ∙ ap scan_of c.tell.ensures.same)

pub returns-clause-apart : goal.returns-clause-apart
returns-clause-apart g c = subst AreApart c.tell.ensures.same c.tell.ensures.ruled.apart
