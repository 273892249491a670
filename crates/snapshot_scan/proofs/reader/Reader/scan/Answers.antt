use Rattle.std.proofs.Common.{arith}
use Rattle.ledger_core.specs.Ops.{width, sum_ops}
use Rattle.ledger_core.specs.Row.{Accepts}
use Rattle.register_rule.specs.Seats.{members_of}
use Rattle.snapshot_scan.specs.Snapshots.{as_answer}
use Rattle.snapshot_scan.proofs.Standing.{scanned_seen, scanned_workers, behind_scanned, scanned_member, stands_scanned}
use Rattle.snapshot_scan.specs.Shape.{scan_of}
use Rattle.snapshot_scan.proofs.Publishing.{moments_more}
use Rattle.snapshot_scan.proofs.LentScan.{sees_on, lent_numbers, gathers, found_last, found_still}
use Rattle.snapshot_scan.proofs.reader.Reader.scan.Goals as goal

pub invariant_of-self-clause-lent : goal.invariant_of-self-clause-lent
invariant_of-self-clause-lent g c = let r = c.args.self.now in
    scanned_workers _ (members_of r.bundle) (members_of c.scan_to.new.seat) c.scan_to.ensures.others r.lent

pub invariant_of-self-clause-seen : goal.invariant_of-self-clause-seen
invariant_of-self-clause-seen g c = let r = c.args.self.now in let s = c.scan_to in
    scanned_seen r.index (members_of r.bundle) (members_of s.new.seat) r.leads r.is s.ensures.others
    (sees_on g.row.N _ _ (as_answer s.new.out) s.result s.ensures.answered s.ensures.contended) r.seen

pub invariant_of-self-clause-moments : goal.invariant_of-self-clause-moments
invariant_of-self-clause-moments g c =
    let r = c.args.self.now in
    let s = c.scan_to in
    let geometry = r.memory.geometry in
    moments_more g.row.N g.row.C g.row.H g.row.G (omega (arith, geometry)) (members_of s.new.seat) s.ensures.ruled
    (scanned_member (scan_of (members_of s.new.seat)) (members_of r.bundle) (members_of s.new.seat) r.leads s.ensures.others)
    (scan_of (members_of r.bundle)) (as_answer s.new.out) s.result s.ensures.answered s.ensures.contended r.moments

pub returns-clause-lent : goal.returns-clause-lent
returns-clause-lent g c = let r = c.args.self.now in let s = c.scan_to in
    lent_numbers g.row.N (width g.row.C g.row.H g.row.G) r.index (sum_ops g.row.C g.row.H) (Accepts g.row.C g.row.H g.row.G)
    (members_of s.new.seat) s.ensures.ruled
    (members_of r.bundle) r.leads r.is r.seen s.ensures.others (as_answer s.new.out) s.result s.ensures.answered

pub returns-clause-gathered : goal.returns-clause-gathered
returns-clause-gathered g c = let r = c.args.self.now in let s = c.scan_to in
    gathers g.row.N (width g.row.C g.row.H g.row.G) r.index (sum_ops g.row.C g.row.H) (Accepts g.row.C g.row.H g.row.G)
    (members_of s.new.seat) s.ensures.ruled
    (members_of r.bundle) r.leads r.is r.seen s.ensures.others s.result s.ensures.contended

pub returns-clause-found : goal.returns-clause-found
returns-clause-found g c = let s = c.scan_to in found_last g.row.N _ _ (as_answer s.new.out) s.result s.ensures.answered

pub returns-clause-alone : goal.returns-clause-alone
returns-clause-alone g c = λ alone. behind_scanned _ (members_of c.args.self.now.bundle) (members_of c.scan_to.new.seat)
    c.scan_to.ensures.others alone

pub returns-clause-still : goal.returns-clause-still
returns-clause-still g c = let s = c.scan_to in
    found_still g.row.N _ _ (as_answer s.new.out) s.result s.ensures.answered s.ensures.contended

pub returns-clause-stay : goal.returns-clause-stay
returns-clause-stay g c = let r = c.args.self.now in let s = c.scan_to in
    λ i m stood. stands_scanned i r.index (scan_of (members_of s.new.seat)) m (members_of r.bundle) (members_of s.new.seat) r.is
    s.ensures.others stood
