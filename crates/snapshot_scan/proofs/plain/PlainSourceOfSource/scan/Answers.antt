use Rattle.std.proofs.Common.{rules}
use Rattle.snapshot_scan.specs.Plain.{row_of, count_of, recorded_by}
use Rattle.snapshot_scan.proofs.Publishing.{comes_moments}
use Rattle.snapshot_scan.proofs.plain.PlainSourceOfSource.scan.Goals as goal

pub returns-clause-recorded : goal.returns-clause-recorded
returns-clause-recorded g c =
    let now = c.take.new.self in
    record {
      recorded = c.take.ensures.recorded;
      whole = search rules;
      rises = search rules;
      moments = comes_moments g.row.N g.row.C g.row.H g.row.G (count_of now) (row_of now) (recorded_by now) now.comes_to;
    }
