use Rattle.std.proofs.Common.{ℕ, false, arith, subst, ◌∙◌}
use Rattle.register_rule.specs.Seats.{members_of}
use Rattle.snapshot_scan.specs.Collecting.{HasConfirmed}
use Rattle.snapshot_scan.proofs.second_collect.confirm_rest.Goals as goal

pub loop-place-preserved : goal.loop-place-preserved
loop-place-preserved g c = let inv = c.loop-place.invariant in record {
  table = c.confirm_one.ensures.table ∙ inv.table;
  leads = c.confirm_one.ensures.leads;
  confirmed = λ ms gs os lens is. c.confirm_one.ensures.confirmed ms gs os c.loop-place.found false
      (lens.0, lens.1, c.loop-place.auto.found ∙ c.requires.inside.1) (inv.confirmed ms gs os lens is);
}

pub returns-clause-confirmed : goal.returns-clause-confirmed
returns-clause-confirmed g c = λ ms gs os lens is.
    let l = c.loop-place in let inside = c.requires.inside in let f = c.loop-place-test.false in let end = l.auto.place-end in
    subst (λ (z : ℕ). HasConfirmed g.row.N g.row.C g.row.H g.row.G z ms gs os (members_of (g.S.ScanSeat.bundle l.seat)) l.found
    false) (omega (arith, inside.0, f, end)) (l.invariant.confirmed ms gs os lens is)
