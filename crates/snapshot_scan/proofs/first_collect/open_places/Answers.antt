use Rattle.std.proofs.Common.{◌+◌, ℕ, arith, subst, refl, ◌∙◌}
use Rattle.ledger_core.specs.Ops.{width}
use Rattle.register_rule.specs.Seats.{members_of}
use Rattle.snapshot_scan.specs.Collecting.{HasOpened}
use Rattle.snapshot_scan.proofs.first_collect.open_places.Goals as goal

pub loop-k-init : goal.loop-k-init
loop-k-init g c =
    let w : ℕ = width g.row.C g.row.H g.row.G in let bundle = g.S.ScanSeat.bundle in record {
      table = refl;
      leads = c.requires.of_board.1;
      wide = c.requires.wide;
      opened = λ ms rows is. subst (λ (z : ℕ). HasOpened w z ms rows (members_of (bundle c.args.seat.now)) c.args.remembered.now
          c.args.opened.now c.args.known.now) (omega arith) is;
    }

pub loop-k-preserved : goal.loop-k-preserved
loop-k-preserved g c =
    let w : ℕ = width g.row.C g.row.H g.row.G in let bundle = g.S.ScanSeat.bundle in
    let inv = c.loop-k.invariant in let r = c.open_one.new in record {
      table = c.open_one.ensures.table ∙ inv.table;
      leads = c.open_one.ensures.leads;
      wide = c.open_one.ensures.wide;
      opened = λ ms rows is. subst (λ (z : ℕ). HasOpened w z ms rows (members_of (bundle r.seat)) r.remembered r.opened r.known)
          (omega arith) (c.open_one.ensures.opened ms rows (inv.opened ms rows is));
    }

pub returns-clause-opened : goal.returns-clause-opened
returns-clause-opened g c = λ ms rows is.
    let w : ℕ = width g.row.C g.row.H g.row.G in let l = c.loop-k in
    let f = c.loop-k-test.false in let end = l.auto.k-end in
    subst (λ (z : ℕ). HasOpened w (c.args.from + z) ms rows (members_of (g.S.ScanSeat.bundle l.seat)) l.remembered l.opened
    l.known)
    (omega (arith, f, end)) (l.invariant.opened ms rows is)
