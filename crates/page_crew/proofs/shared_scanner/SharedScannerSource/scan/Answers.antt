use Rattle.std.proofs.Common.{arith, length, sym, ap, ◌∙◌}
use Rattle.snapshot_scan.specs.Readers.{members_with, scan_by}
use Rattle.snapshot_scan.specs.Snapshots.{as_answer}
use Rattle.snapshot_scan.proofs.Sourced.{scan_tells, contended_rose, has_member}
use Rattle.page_crew.proofs.shared_scanner.SharedScannerSource.scan.Goals as goal

pub returns-clause-recorded : goal.returns-clause-recorded
returns-clause-recorded g c =
    let geometry = c.scan-answer.new.self.memory.geometry in
    scan_tells g.row.N g.row.C g.row.H g.row.G (omega (arith, geometry)) (members_with c.scan-answer.new.self)
    c.scan-answer.ensures.ruled (has_member (members_with c.scan-answer.new.self) c.scan-answer.new.self.leads)
    c.scan-answer.new.self.moments (scan_by c.args.self.now.reader) (as_answer c.scan-answer.new.out)
    (ap length (sym c.totals-totals.ensures.words) ∙ c.totals-totals.ensures.all) c.scan-answer.result
    c.scan-answer.ensures.answered

pub returns-clause-rose : goal.returns-clause-rose
returns-clause-rose g c = contended_rose g.row.N (scan_by c.args.self.now.reader) (scan_by c.scan-answer.new.self)
    c.scan-answer.result c.scan-answer.ensures.contended
