use Rattle.snapshot_scan.specs.Order.{IsAlone}
use Rattle.snapshot_scan.specs.Readers.{IsReaderOf}
use Rattle.snapshot_update.specs.Workers.{IsWorkerOf}
use Rattle.library_tests.proofs.tests.memory.rounds.Given as goal

abbrev pub invariant-loop-time : goal.invariant-loop-time
invariant-loop-time g l = IsWorkerOf l.board l.it.worker × IsReaderOf l.board l.it.reader
    × (IsReaderOf l.board l.it.one × IsReaderOf l.board l.it.other) × (IsAlone l.it.one × IsAlone l.it.other)
