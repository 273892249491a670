use Rattle.std.proofs.Common.{◌≡◌, ◌<◌, ◌≤◌, ◌+◌, ℕ, length, get_or, subst, sym, arith}
use Rattle.snapshot_scan.specs.ChangedItems.{ChangedView}
use Rattle.snapshot_scan.specs.Exchange.{Exchanges}
use Rattle.snapshot_scan.proofs.Moving.{exchanges_then, exchanges_one, exchanges_same}
use Rattle.snapshot_scan.proofs.exchange.exchange_some.Goals as goal
use Rattle.snapshot_scan.proofs.exchange.exchange_some.Goals.{then-old-k, else-old-k}

pub loop-k-preserved : goal.loop-k-preserved
loop-k-preserved c =
    let k = c.loop-k.k in let n = length c.args.totals.now in let from = c.args.from in let ts = c.loop-k.totals in
    let inv = c.loop-k.invariant in
    let old = c.args.old.now in let new = c.args.new.now in
    let a = c.loop-k.auto.totals in let t = c.loop-k-test.true in let i = c.requires.inside in let above = c.loop-k.auto.k in
    let lt : k < n = omega (arith, t, i.1) in let le : from ≤ k = omega (arith, above) in
    let at = inv.high k (omega arith) in let p = c.requires.part k le lt in
    let both = exchanges_then n old new from k (k + 1) c.args.totals.now ts c.if-old-k.totals c.args.changed_totals.now
    c.loop-k.changed_totals
    c.if-old-k.changed_totals le (omega arith) inv in
    elim c.if-old-k.branch [
      | then-old-k w ↦ both (subst
          (λ (m : ChangedView). Exchanges n k (k + 1) old new ts c.if-old-k.totals c.loop-k.changed_totals m)
          (sym w.changed_totals-is)
          (exchanges_one n old new k ts c.if-old-k.totals c.loop-k.changed_totals w.note.new.self lt (sym a)
          (omega (arith, at, p.0))
          w.totals-is w.note.ensures.notes))
      | else-old-k w ↦ both (exchanges_same n old new k (k + 1) ts c.if-old-k.totals c.loop-k.changed_totals
          c.if-old-k.changed_totals
          (λ j le' lt'. let e : k ≡ j = omega (arith, le', lt') in
          subst (λ (i : ℕ). get_or old i 0 ≡ get_or new i 0) e w.if-old-k.false) w.totals-is w.changed_totals-is)
    ]
