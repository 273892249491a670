use Rattle.std.proofs.Common.{refl, ◌≡◌, ◌+◌, ◌*◌, ◌/◌, ℕ, List, [], length, get_or, arith, sym, ap, ◌∙◌, subst}
use Rattle.std.proofs.lemmas.Bool.{true≢false}
use lib.ListN.{get_elem?}
use Rattle.ledger_core.specs.Ops.{width}
use Rattle.register_rule.proofs.Words.{at_below, there}
use Rattle.register_rule.specs.declared.view.ScanLog.{ScanLog}
use Rattle.register_rule.specs.Seats.{HasMember, members_of}
use Rattle.snapshot_scan.specs.Shape.{scan_of, with_scan}
use Rattle.snapshot_scan.specs.RememberedRows.{version_of, opening}
use Rattle.snapshot_scan.specs.Collecting.{HasOpened}
use Rattle.snapshot_scan.proofs.Words.{take_all, with_same, at_map, scan_with, led_some}
use Rattle.snapshot_scan.proofs.Opening.{opening_starts}
use Rattle.snapshot_scan.proofs.Trying.{loads_at, sums_same}
use Rattle.snapshot_scan.proofs.first_collect.collect.Goals as goal

pub loop-turn-init : goal.loop-turn-init
loop-turn-init g c =
    let ms = members_of (g.S.ScanSeat.bundle c.args.seat.now) in record {
      table = refl;
      leads = c.requires.of_board.1;
      wide = λ k d lt. c.requires.wide k (get_or c.args.remembered.now k d) (there c.args.remembered.now k d lt);
      deep = let geo = c.requires.geometry in
          omega (arith, geo.workers.1, geo.slots.counters, geo.slots.histograms, geo.slots.gauges);
      opened = record {
        starts = c.requires.of_board.1;
        remembered = c.requires.remembered;
        due = c.requires.rest.1;
        asks = c.requires.rest.2;
        wide = c.requires.wide;
        same = refl;
        view = sym (ap (λ (d : ScanLog). with_scan d ms) (opening_starts c.args.remembered.now (scan_of ms) c.requires.rest.0)
            ∙ with_same ms);
        known = λ e q x lt. absurd (omega (arith, lt));
        unknown = λ e. absurd (true≢false e);
        told = λ q lt. absurd (omega (arith, lt));
      };
    }

pub loop-turn-preserved : goal.loop-turn-preserved
loop-turn-preserved g c =
    let w : ℕ = width g.row.C g.row.H g.row.G in let bundle = g.S.ScanSeat.bundle in
    let ms = members_of (bundle c.args.seat.now) in
    let inv = c.loop-turn.invariant in let r = c.open_places.new in record {
      table = c.open_places.ensures.table ∙ inv.table;
      leads = c.open_places.ensures.leads;
      wide = c.open_places.ensures.wide;
      deep = inv.deep;
      opened = subst (λ (z : ℕ). HasOpened w z ms c.args.remembered.now (members_of (bundle r.seat)) r.remembered r.opened
          r.known) (omega arith) (c.open_places.ensures.opened ms c.args.remembered.now inv.opened);
    }

-- what the whole collect has opened
pub returns : goal.returns
returns g c =
    let n : ℕ = g.row.N in let w : ℕ = width g.row.C g.row.H g.row.G in let bundle = g.S.ScanSeat.bundle in
    let ms = members_of (bundle c.args.seat.now) in
    let l = c.loop-turn in let f = c.loop-turn-test.false in let end = l.auto.turn-end in let r = c.open_places-2.new in
    let lens = c.requires.lengths in
    let so_far : HasOpened w (4 * (n / 4)) ms c.args.remembered.now (members_of (bundle l.seat)) l.remembered l.opened l.known =
    subst (λ (z : ℕ). HasOpened w (4 * z) ms c.args.remembered.now (members_of (bundle l.seat)) l.remembered l.opened l.known)
    (omega (arith, f, end)) l.invariant.opened in
    let all : HasOpened w n ms c.args.remembered.now (members_of (bundle r.seat)) r.remembered r.opened r.known =
    subst (λ (z : ℕ). HasOpened w z ms c.args.remembered.now (members_of (bundle r.seat)) r.remembered r.opened r.known)
    (omega arith) (c.open_places-2.ensures.opened ms c.args.remembered.now so_far) in
    let a = l.auto.remembered in let b = l.auto.opened in let a' = c.open_places-2.auto.remembered in
    let b' = c.open_places-2.auto.opened in
    let own = c.open_places-2.ensures.table ∙ l.invariant.table in
    let view : members_of (bundle r.seat) ≡ with_scan (opening r.opened r.remembered (scan_of ms)) ms =
    all.view ∙ ap (λ (z : List ℕ). with_scan (opening z r.remembered (scan_of ms)) ms)
    (take_all r.opened n (omega (arith, b, b', lens.1))) in
    let scan : scan_of (members_of (bundle r.seat)) ≡ opening r.opened r.remembered (scan_of ms) =
    ap scan_of view ∙ scan_with _ ms c.requires.of_board.1 in
    record {
      table = own;
      wide = all.wide;
      same = all.same;
      view = view;
      may = record {
        of_board = (own ∙ c.requires.of_board.0, subst HasMember (sym view) (led_some _ ms c.requires.of_board.1));
        geometry = c.requires.geometry;
        lengths = (a' ∙ (a ∙ lens.0), b' ∙ (b ∙ lens.1));
        wide = all.wide;
        remembered = ap (λ (d : ScanLog). d.remembered) scan ∙ (c.requires.remembered ∙ sym all.same);
        looks = ap (λ (d : ScanLog). d.trying.looks) scan;
        loaded = λ q lt. let e = there r.opened q 0 (omega (arith, b, b', lens.1, lt)) in (
          length (scan_of ms).opened + q,
          ap (λ (d : ScanLog). get_elem? d.opened (length (scan_of ms).opened + q)) scan
              ∙ loads_at (scan_of ms).opened r.opened [] q (get_or r.opened q 0) e,
        );
      };
      sums = λ ts are k lt. are k lt ∙ sums_same k c.args.remembered.now r.remembered (sym all.same);
      told = all.told;
      known = λ t q x at. all.known t q x (let h = at_below r.remembered q x at in omega (arith, h, a, a', lens.0)) at;
      unknown = λ t. let u = all.unknown t in
          (u.0, version_of u.1, (λ z. get_elem? (sym all.same z) u.0) ∙ at_map version_of r.remembered u.0 u.1 u.3, u.4);
    }
