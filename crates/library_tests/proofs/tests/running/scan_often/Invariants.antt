use Rattle.snapshot_scan.specs.Readers.{IsReaderOf}
use Rattle.library_tests.proofs.tests.running.scan_often.Given as goal

abbrev pub invariant-loop-k : goal.invariant-loop-k
invariant-loop-k l = IsReaderOf l.fn.board l.watch.reader
