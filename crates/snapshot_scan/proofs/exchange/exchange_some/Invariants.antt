use Rattle.std.proofs.Common.{length}
use Rattle.snapshot_scan.specs.Exchange.{Exchanges}
use Rattle.snapshot_scan.proofs.exchange.exchange_some.Given as goal

abbrev pub invariant-loop-k : goal.invariant-loop-k
invariant-loop-k l = Exchanges (length l.initial.totals) l.from l.k l.old l.new l.initial.totals l.totals
    l.initial.changed_totals l.changed_totals
