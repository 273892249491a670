use Rattle.std.proofs.Common.{◌≡◌, [], ◌∷◌, ◌++◌, sym, ap, ◌∙◌, subst}
use Rattle.register_rule.specs.declared.seats.WorkSeat.{WorkSeat}
use Rattle.register_rule.specs.declared.view.Member.{Member}
use Rattle.register_rule.specs.declared.view.Who.TheVariants.{Worker}
use Rattle.register_rule.specs.Members.{greatest, raised, met}
use Rattle.register_rule.specs.Seats.{worker_of, index_of}
use Rattle.snapshot_scan.specs.Lent.{IsWorkerAmong}
use Rattle.snapshot_scan.specs.Readers.{members_with}
use Rattle.snapshot_scan.proofs.Standing.{seen_met}
use Rattle.snapshot_update.specs.Fit.{IsFitOfSeat}
use Rattle.snapshot_update.specs.Workers.{member_in, member_of}
use Rattle.snapshot_update.proofs.Lending.{raised_holds, joined_stands}
use Rattle.snapshot_update.proofs.worker.Worker.lend_to.Goals as goal

pub returns-clause-seen : goal.returns-clause-seen
returns-clause-seen g c =
    let w = c.args.self.now in let seat : WorkSeat = c.in-Some.seat in let ms = members_with c.args.reader.now in
    let here = sym c.take.ensures.value ∙ c.in-Some.is in
    let is : worker_of seat ≡ member_of w = sym (ap member_in here) in
    let held = w.holds seat here in
    let m : Member = member_of w in
    let named : m.who ≡ Worker w.index = ap (λ (x : Member). x.who) (sym is) ∙ (held.2.who ∙ ap Worker held.0) in
    let joined : members_with c.admit.new.self ≡ met (ms ++ m ∷ []) = c.admit.ensures.met
    ∙ (λ z. met (ms ++ (c.into_bundle.ensures.one ∙ ap (λ (x : Member). x ∷ []) is) z)) in
    (c.admit.new.self.seen w.index (raised (greatest (ms ++ m ∷ [])) m)
    (subst (IsWorkerAmong w.index (raised (greatest (ms ++ m ∷ [])) m)) (sym joined) (joined_stands w.index ms m named))).1

pub returns-clause-lent : goal.returns-clause-lent
returns-clause-lent g c =
    let w = c.args.self.now in let im = w.images in let seat : WorkSeat = c.in-Some.seat in
    let ms = members_with c.args.reader.now in
    let here = sym c.take.ensures.value ∙ c.in-Some.is in
    let is : worker_of seat ≡ member_of w = sym (ap member_in here) in
    let held = w.holds seat here in
    let m : Member = member_of w in
    let holds = subst (IsFitOfSeat g.row.N g.row.C g.row.H g.row.G w.index w.number w.row.value w.memory im
    (index_of seat)) is held in
    let named : m.who ≡ Worker w.index = ap (λ (x : Member). x.who) (sym is) ∙ (held.2.who ∙ ap Worker held.0) in
    let joined : members_with c.admit.new.self ≡ met (ms ++ m ∷ []) = c.admit.ensures.met
    ∙ (λ z. met (ms ++ (c.into_bundle.ensures.one ∙ ap (λ (x : Member). x ∷ []) is) z)) in
    record {
      away = c.take.ensures.after;
      there = subst (IsWorkerAmong w.index (raised (greatest (ms ++ m ∷ [])) m)) (sym joined) (joined_stands w.index ms m named);
      fits = raised_holds g.row.N g.row.C g.row.H g.row.G w.index w.number w.row.value w.memory im (index_of seat) (greatest
          (ms ++ m ∷ [])) m holds;
    }

pub returns-clause-scans : goal.returns-clause-scans
returns-clause-scans g c = let r = c.args.reader.now in
    seen_met (members_with r) _ (members_with c.admit.new.self) r.leads c.admit.ensures.met
