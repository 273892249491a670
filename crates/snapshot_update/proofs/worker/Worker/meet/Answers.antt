use Rattle.std.proofs.Common.{◌≡◌, ◌≤◌, List, [], ◌∷◌, ◌++◌, length, slice_index, sym, ap, ◌∙◌, subst}
use mathlib.Core.Option.{some}
use lib.ListN.{get_elem?}
use Rattle.register_rule.proofs.Words.{at_below}
use Rattle.register_rule.specs.declared.view.Member.{Member}
use Rattle.register_rule.specs.declared.view.ScanLog.{ScanLog}
use Rattle.register_rule.specs.declared.view.Who.TheVariants.{Worker}
use Rattle.register_rule.specs.History.{Below}
use Rattle.register_rule.specs.Members.{greatest, raised, without}
use Rattle.snapshot_scan.specs.Readers.{members_with}
use Rattle.snapshot_scan.specs.Shape.{scan_of}
use Rattle.snapshot_scan.specs.Lent.{HasSeenMore, behind}
use Rattle.snapshot_scan.proofs.Standing.{sees_reader, sees_still, alone_met}
use Rattle.snapshot_update.specs.Workers.{member_of}
use Rattle.snapshot_update.proofs.Lending.{is_picked, apart_at, met_at, last_mapped}
use Rattle.snapshot_update.proofs.worker.Worker.meet.Goals as goal

pub returns-clause-worker : goal.returns-clause-worker
returns-clause-worker g c =
    let l = c.lend_to in let i = l.new.self.index in
    is_picked i (raised (greatest (members_with c.args.reader.now ++ member_of c.args.self.now ∷ [])) (member_of c.args.self.now))
    (member_of c.take_back.new.self) (members_with l.new.reader) l.ensures.lent.there c.take_back.ensures.member

pub returns-clause-reader_sees : goal.returns-clause-reader_sees
returns-clause-reader_sees g c =
    let l = c.lend_to in let r = l.new.reader in
    let same : scan_of (members_with c.take_back.new.reader) ≡ scan_of (members_with r) = ap scan_of c.take_back.ensures.others
    ∙ sees_still l.new.self.index r.index (members_with r) r.leads r.is in
    subst (λ (x : ScanLog). length (member_of c.args.self.now).work.made ≤ slice_index x.seen c.args.self.now.index)
    (sym same) l.ensures.seen

pub returns-clause-worker_sees : goal.returns-clause-worker_sees
returns-clause-worker_sees g c =
    let l = c.lend_to in let i = l.new.self.index in let r = c.args.reader.now in let w = c.args.self.now in
    let m : Member = raised (greatest (members_with r ++ member_of w ∷ [])) (member_of w) in
    let is : member_of c.take_back.new.self ≡ m = is_picked i m (member_of c.take_back.new.self) (members_with l.new.reader)
    l.ensures.lent.there c.take_back.ensures.member in
    subst (λ (x : Member). Below (scan_of (members_with r)).seen x.scan.seen) (sym is)
    (sees_reader r.index (members_with r) (member_of w ∷ []) (member_of w).scan.seen r.leads r.is)

pub returns-clause-others : goal.returns-clause-others
returns-clause-others g c = λ i m s.
    let l = c.lend_to in let old = members_with c.args.reader.now in let w = member_of c.args.self.now in
    let r = raised (greatest (old ++ w ∷ [])) in
    let lt = at_below old s.0 m s.1 in
    let at : get_elem? (members_with l.new.reader) s.0 ≡ some (r m) = ap (λ (ms : List Member). get_elem? ms s.0) l.ensures.met
    ∙ met_at old (w ∷ []) s.0 m s.1 in
    let last : get_elem? (members_with l.new.reader) (length old) ≡ some (r w) =
    ap (λ (ms : List Member). get_elem? ms (length old)) l.ensures.met ∙ last_mapped r old w in
    λ same. apart_at (members_with l.new.reader) s.0 (length old) (r m) (r w) c.take_back.ensures.apart lt at last
    (l.ensures.lent.there.2 ∙ (ap Worker l.ensures.index.0 ∙ sym (s.2 ∙ ap Worker same)))

pub returns-clause-scans : goal.returns-clause-scans
returns-clause-scans g c = subst (HasSeenMore (scan_of (members_with c.args.reader.now))) (sym c.take_back.ensures.scans)
    c.lend_to.ensures.scans

pub returns-clause-alone : goal.returns-clause-alone
returns-clause-alone g c = λ alone.
    let l = c.lend_to in let i = l.new.self.index in let first = c.args.reader.now in let w = c.args.self.now in
    ap behind (c.take_back.ensures.others ∙ ap (without (Worker i)) l.ensures.met) ∙ alone_met i first.index (members_with first)
    (member_of w) first.leads first.is l.ensures.lent.there.2 alone
