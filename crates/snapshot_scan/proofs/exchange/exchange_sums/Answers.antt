use Rattle.std.proofs.Common.{◌≡◌, ◌+◌, ◌*◌, ℕ, List, length, subst, sym, arith}
use Rattle.snapshot_scan.specs.ChangedItems.{ChangedView, ListsChanges}
use Rattle.snapshot_scan.specs.Exchange.{Exchanges}
use Rattle.snapshot_scan.proofs.Moving.{exchanges_then, exchanges_same, moves_then}
use Rattle.snapshot_scan.proofs.exchange.exchange_sums.Goals as goal
use Rattle.snapshot_scan.proofs.exchange.exchange_sums.Goals.{then-differ, else-differ}

pub loop-block-preserved : goal.loop-block-preserved
loop-block-preserved c =
    let n = length c.args.totals.now in let ts = c.loop-block.totals in let old = c.args.old.now in let new = c.args.new.now in
    let from = 16 * c.loop-block.block in let to = from + 16 in let next = 16 * (c.loop-block.block + 1) in
    let after = c.if-differ.totals in let changed_totals = c.if-differ.changed_totals in let long = c.loop-block.auto.totals in
    let more : to ≡ next = omega arith in
    let both = exchanges_then n old new 0 from to c.args.totals.now ts after c.args.changed_totals.now
    c.loop-block.changed_totals changed_totals
    (omega arith) (omega arith) c.loop-block.invariant in
    subst (λ (k : ℕ). Exchanges n 0 k old new c.args.totals.now after c.args.changed_totals.now changed_totals) more (elim
    c.if-differ.branch [
      | then-differ w ↦ both (subst (λ (m : ChangedView). Exchanges n from to old new ts after c.loop-block.changed_totals m)
          (sym w.changed_totals-is)
          (subst (λ (l : List ℕ). Exchanges n from to old new ts l c.loop-block.changed_totals
          w.exchange_some.new.changed_totals) (sym w.totals-is)
          (subst (λ (k : ℕ). Exchanges k from to old new ts w.exchange_some.new.totals c.loop-block.changed_totals
          w.exchange_some.new.changed_totals) long w.exchange_some.ensures)))
      | else-differ w ↦ both (exchanges_same n old new from to ts after c.loop-block.changed_totals changed_totals
          (c.differ.ensures w.if-differ.false) w.totals-is w.changed_totals-is)
    ])

pub returns-clause-changed_totals : goal.returns-clause-changed_totals
returns-clause-changed_totals c =
    let n = length c.args.totals.now in let ts = c.loop-block.totals in let r = c.exchange_some-2.new in
    moves_then n c.args.totals.now ts r.totals c.args.changed_totals.now c.loop-block.changed_totals r.changed_totals
    c.loop-block.invariant.moves
    (subst (λ (k : ℕ). ListsChanges k ts r.totals c.loop-block.changed_totals r.changed_totals) c.loop-block.auto.totals
    c.exchange_some-2.ensures.moves)
