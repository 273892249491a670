use Rattle.std.proofs.Common.{List, ap, sym, subst}
use Rattle.register_rule.specs.declared.view.Answer.{Answer}
use Rattle.register_rule.specs.declared.view.ScanLog.{ScanLog}
use Rattle.register_rule.specs.Seats.{members_of}
use Rattle.snapshot_scan.specs.Moments.{AreMoments}
use Rattle.snapshot_scan.proofs.Standing.{led_joined, seen_met}
use Rattle.snapshot_scan.proofs.reader.Reader.admit.Goals as goal

pub invariant_of-self : goal.invariant_of-self
invariant_of-self g c =
    let r = c.args.self.now in
    let t = led_joined r.index r.memory.remembered.items (members_of r.bundle) (members_of c.args.worker)
    (members_of c.join.new.bundle)
    c.join.ensures.all c.requires.alone (r.leads, r.is, r.ready, r.lent, r.seen) in
    let more = seen_met (members_of r.bundle) (members_of c.args.worker) (members_of c.join.new.bundle) r.leads
    c.join.ensures.all in
    record {
      leads = t.0;
      is = t.1;
      ready = t.2;
      lent = t.3;
      seen = t.4;
      moments = subst (λ (l : List Answer). AreMoments g.row.N g.row.C g.row.H g.row.G l)
          (sym (ap (λ (x : ScanLog). x.recorded) more.only)) r.moments;
    }
