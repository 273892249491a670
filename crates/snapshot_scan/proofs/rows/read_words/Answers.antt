use Rattle.std.proofs.Common.{◌+◌, ℕ, arith, subst, refl, ◌∙◌}
use Rattle.ledger_core.specs.Ops.{width}
use Rattle.register_rule.specs.Seats.{members_of}
use Rattle.snapshot_scan.specs.Reading.{IsReadTo}
use Rattle.snapshot_scan.proofs.rows.read_words.Goals as goal

pub loop-k-init : goal.loop-k-init
loop-k-init g c = let w : ℕ = width g.row.C g.row.H g.row.G in record {
  table = refl;
  leads = c.requires.of_board.1;
  read = λ ms row listed is. subst (λ (z : ℕ). IsReadTo w c.args.place c.args.number z ms
      (members_of (g.S.ScanSeat.bundle c.args.seat.now)) row c.args.words.now listed c.args.changed.now) (omega arith) is;
}

pub loop-k-preserved : goal.loop-k-preserved
loop-k-preserved g c = let w : ℕ = width g.row.C g.row.H g.row.G in let inv = c.loop-k.invariant in let r = c.read_one.new in
    record {
      table = c.read_one.ensures.table ∙ inv.table;
      leads = c.read_one.ensures.leads;
      read = λ ms row listed is. subst (λ (z : ℕ). IsReadTo w c.args.place c.args.number z ms
          (members_of (g.S.ScanSeat.bundle r.seat)) row r.words listed r.changed) (omega arith)
          (c.read_one.ensures.read ms row listed (inv.read ms row listed is));
    }

pub returns-clause-read : goal.returns-clause-read
returns-clause-read g c = λ ms row listed is.
    let w : ℕ = width g.row.C g.row.H g.row.G in let l = c.loop-k in
    let f = c.loop-k-test.false in let end = c.loop-k.auto.k-end in
    subst (λ (z : ℕ). IsReadTo w c.args.place c.args.number (c.args.from + z) ms (members_of (g.S.ScanSeat.bundle l.seat)) row
    l.words
    listed l.changed) (omega (arith, f, end)) (l.invariant.read ms row listed is)
