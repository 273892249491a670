use Rattle.std.proofs.Common.{◌≡◌, ◌≤◌, Bool, true, false, cond, ℕ, List, get_or, refl, sym, ap, subst, ◌∙◌}
use Rattle.ledger_core.specs.Ops.{width}
use Rattle.register_rule.specs.ScanSteps.{ended}
use Rattle.register_rule.specs.Seats.{members_of}
use Rattle.snapshot_scan.specs.Shape.{scan_in, with_scan}
use Rattle.snapshot_scan.specs.RememberedRows.{settling}
use Rattle.snapshot_scan.proofs.Moving.{moves_none}
use Rattle.snapshot_scan.proofs.second_collect.confirm.Goals as goal

not_known : true ≡ false → ⊥
not_known e = cc

-- where the numbers are those that were opened if all were found again, they are the found ones
all_found : (b : Bool) (opened found : List ℕ) → (b ≡ true → opened ≡ found) → cond b opened found ≡ found
all_found true opened found same = same refl
all_found false opened found same = refl

pub returns-then-known : goal.returns-then-known
returns-then-known g c = let r = c.confirm_known.ensures in record {
  table = r.table;
  ruled = r.ruled;
  wide = c.requires.may.wide;
  totals = c.requires.sums.1;
  view = r.view;
  risen = r.risen;
  held = λ q k at same. c.requires.known c.if-known.true q k at;
  moved = r.moved;
  quiet = λ _. (refl, refl);
  listed = moves_none (width g.row.C g.row.H g.row.G) c.args.totals.now c.args.changed_totals.now;
}

pub returns : goal.returns
returns g c =
    let r = c.confirm_and_settle in let os = c.args.opened.now in let s = g.S.ScanSeat.bundle c.args.seat.now in
    let n : ℕ = g.row.N in let w : ℕ = width g.row.C g.row.H g.row.G in
    let found = sym (all_found r.result os r.new.found r.ensures.clean.0) in record {
      table = r.ensures.table;
      ruled = r.ensures.ruled;
      wide = r.ensures.wide;
      totals = r.ensures.totals;
      view = r.ensures.view
          ∙ ap (λ (l : List ℕ). with_scan (ended n w (settling os l r.new.remembered (scan_in s))) (members_of s)) found;
      risen = λ q lt. subst (λ (l : List ℕ). get_or os q 0 ≤ get_or l q 0) found (r.ensures.risen q lt);
      held = λ q k at same. r.ensures.held q k at (same ∙ ap (λ (l : List ℕ). get_or l q 0) (sym found));
      moved = λ e same. not_known (sym (r.ensures.clean.1 same) ∙ e);
      quiet = λ e. absurd (not_known (sym e ∙ c.if-known.false));
      listed = r.ensures.listed;
    }
