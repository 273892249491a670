use Rattle.std.proofs.Common.{◌*◌, length}
use Rattle.snapshot_scan.specs.Exchange.{Exchanges}
use Rattle.snapshot_scan.proofs.exchange.exchange_sums.Given as goal

abbrev pub invariant-loop-block : goal.invariant-loop-block
invariant-loop-block l = Exchanges (length l.initial.totals) 0 (16 * l.block) l.old l.new l.initial.totals l.totals
    l.initial.changed_totals l.changed_totals
