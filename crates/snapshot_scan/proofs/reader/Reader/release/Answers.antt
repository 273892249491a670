use Rattle.std.proofs.Common.{List, ap, sym, subst, ◌∙◌}
use Rattle.register_rule.specs.declared.view.Member.{Member}
use Rattle.register_rule.specs.declared.view.ScanLog.{ScanLog}
use Rattle.register_rule.specs.Seats.{members_of}
use Rattle.snapshot_scan.specs.Moments.{AreMoments}
use Rattle.snapshot_scan.specs.Shape.{scan_of}
use Rattle.snapshot_scan.proofs.Standing.{led_left, sees_still}
use Rattle.snapshot_scan.proofs.reader.Reader.release.Goals as goal

pub invariant_of-self : goal.invariant_of-self
invariant_of-self g c =
    let r = c.args.self.now in
    let t = led_left c.args.worker r.index r.memory.remembered.items (members_of r.bundle) (members_of c.part.new.bundle)
    c.part.ensures.others (r.leads, r.is, r.ready, r.lent, r.seen) in
    let still = ap (λ (l : List Member). scan_of l) c.part.ensures.others
    ∙ sees_still c.args.worker r.index (members_of r.bundle) r.leads r.is in
    record {
      leads = t.0;
      is = t.1;
      ready = t.2;
      lent = t.3;
      seen = t.4;
      moments = subst (λ (x : ScanLog). AreMoments g.row.N g.row.C g.row.H g.row.G x.recorded) (sym still) r.moments;
    }
