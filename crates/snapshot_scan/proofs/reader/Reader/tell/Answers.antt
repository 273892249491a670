use Rattle.std.proofs.Common.{List, sym, subst}
use Rattle.register_rule.specs.declared.view.Member.{Member}
use Rattle.snapshot_scan.specs.Moments.{AreMoments}
use Rattle.snapshot_scan.specs.Shape.{scan_of}
use Rattle.snapshot_scan.proofs.Standing.{IsLed}
use Rattle.snapshot_scan.proofs.reader.Reader.tell.Goals as goal

pub invariant_of-self : goal.invariant_of-self
invariant_of-self g c =
    let r = c.args.self.now in
    let t = subst (IsLed r.index r.memory.remembered.items) (sym c.tell-number.ensures.same)
    (r.leads, r.is, r.ready, r.lent, r.seen) in
    record {
      leads = t.0;
      is = t.1;
      ready = t.2;
      lent = t.3;
      seen = t.4;
      moments = subst (λ (l : List Member). AreMoments g.row.N g.row.C g.row.H g.row.G (scan_of l).recorded)
          (sym c.tell-number.ensures.same) r.moments;
    }
