use Rattle.std.proofs.Common.{rules}
use Rattle.snapshot_scan.specs.Readers.{scan_by}
use Rattle.snapshot_update.proofs.Lending.{lent_scanned}
use Rattle.library_tests.proofs.tests.memory.meets.Goals as goal

pub take_back-requires : goal.take_back-requires
take_back-requires g c =
    let scanned = c.scan.ensures in
    let lent = lent_scanned c.lend_to.new.self c.lend_to.new.reader c.scan.new.self _ c.lend_to.ensures.lent
    (scan_by c.scan.new.self) scanned.others in
    (search rules, (search rules, (search rules, (scanned.of_board, (_, lent)))))
