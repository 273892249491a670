use Rattle.std.proofs.Common.{◌≡◌, ◌+◌, ◌<◌, ◌==◌, ◌&&◌, true, false, ℕ, get_or, set, length, arith, subst, refl, sym, ap, ◌∙◌}
use Rattle.std.proofs.Common.{eq-eqb, ne_eqb}
use Rattle.std.proofs.Math.Path.{transport}
use Rattle.register_rule.proofs.Words.{there}
use Rattle.register_rule.specs.Seats.{members_of}
use Rattle.snapshot_scan.specs.Collecting.{HasConfirmed}
use Rattle.snapshot_scan.proofs.Words.{set_same}
use Rattle.snapshot_scan.proofs.second_collect.confirm_places.Goals as goal

pub loop-k-init : goal.loop-k-init
loop-k-init g c = record {
  table = refl;
  leads = c.requires.of_board.1;
  confirmed = λ ms gs few is. subst (λ (z : ℕ). HasConfirmed g.row.N g.row.C g.row.H g.row.G z ms gs c.args.opened.now
      (members_of (g.S.ScanSeat.bundle c.args.seat.now)) c.args.opened.now true) (omega arith) is;
}

-- the place was found again
pub loop-k-preserved : goal.loop-k-preserved
loop-k-preserved g c =
    let inv = c.loop-k.invariant in let os = c.args.opened.now in let inside = c.requires.inside in let one = c.confirm_one-number
    in
    let k = c.loop-k.k in let t = c.loop-k-test.true in
    let p = c.args.from + k in let s = one.result in let o = get_or os p 0 in
    let same : s ≡ o = c.if-number-opened.false in
    let lt : p < length os = omega (arith, inside.0, inside.1, t) in
    let next : p + 1 ≡ c.args.from + (k + 1) = omega arith in
    let kept : set os p s ≡ os = ap (set os p) same ∙ set_same os p o (there os p 0 lt) in
    let yes : (true && (o == s)) ≡ true = eq-eqb o s (sym same) in
    record {
      table = one.ensures.table ∙ inv.table;
      leads = one.ensures.leads;
      confirmed = λ ms gs few is. transport (λ z. HasConfirmed g.row.N g.row.C g.row.H g.row.G (next z) ms gs os
          (members_of (g.S.ScanSeat.bundle one.new.seat)) (kept z) (yes z))
          (one.ensures.confirmed ms gs os os true (few, inside.1, inside.1) (inv.confirmed ms gs few is));
    }

-- it was not
pub returns-then-number-opened : goal.returns-then-number-opened
returns-then-number-opened g c =
    let inv = c.loop-k.invariant in let os = c.args.opened.now in let inside = c.requires.inside in let one = c.confirm_one-number
    in
    let t = c.loop-k-test.true in
    let p = c.args.from + c.loop-k.k in let s = one.result in let o = get_or os p 0 in
    let noted : set os p s ≡ c.note_moved.new.found = sym c.note_moved.ensures in
    let no : (true && (o == s)) ≡ false = ne_eqb o s (λ e. c.if-number-opened.true (sym e)) in
    record {
      table = one.ensures.table ∙ inv.table;
      leads = one.ensures.leads;
      confirmed = (
        omega (arith, inside.0, t),
        λ ms gs few is. transport (λ z. HasConfirmed g.row.N g.row.C g.row.H g.row.G (p + 1) ms gs os
            (members_of (g.S.ScanSeat.bundle one.new.seat)) (noted z) (no z))
            (one.ensures.confirmed ms gs os os true (few, inside.1, inside.1) (inv.confirmed ms gs few is)),
      );
    }

pub returns : goal.returns
returns g c =
    let l = c.loop-k in let f = c.loop-k-test.false in let end = l.auto.k-end in
    record {
      table = l.invariant.table;
      leads = l.invariant.leads;
      confirmed = λ ms gs few is. subst (λ (z : ℕ). HasConfirmed g.row.N g.row.C g.row.H g.row.G (c.args.from + z) ms gs
          c.args.opened.now (members_of (g.S.ScanSeat.bundle l.seat)) c.args.opened.now true) (omega (arith, f, end))
          (l.invariant.confirmed ms gs few is);
    }
