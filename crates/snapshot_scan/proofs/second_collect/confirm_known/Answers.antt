use Rattle.std.proofs.Common.{refl, ◌≡◌, ◌≢◌, ◌*◌, ◌/◌, ◌<◌, ◌==◌, Bool, true, false, cond, ℕ, List, [], length, slice_index}
use Rattle.std.proofs.Common.{arith, sym, ap, ◌∙◌, subst}
use Rattle.std.proofs.Common.{eq-eqb, ne_eqb}
use Rattle.std.proofs.lemmas.Bool.{true≢false}
use Rattle.ledger_core.specs.Ops.{width}
use Rattle.register_rule.specs.declared.view.Member.{Member}
use Rattle.register_rule.specs.declared.view.ScanLog.{ScanLog}
use Rattle.register_rule.specs.ScanSteps.{ended}
use Rattle.register_rule.specs.Seats.{members_of}
use Rattle.snapshot_scan.specs.declared.remembered_row.RememberedRow.{RememberedRow}
use Rattle.snapshot_scan.specs.Shape.{scan_of, with_scan}
use Rattle.snapshot_scan.specs.RememberedRows.{settling}
use Rattle.snapshot_scan.specs.Collecting.{HasConfirmed}
use Rattle.snapshot_scan.proofs.Words.{take_all, with_same}
use Rattle.snapshot_scan.proofs.Settling.{settling_starts}
use Rattle.snapshot_scan.proofs.second_collect.confirm_known.Goals as goal

-- all places are confirmed
told : {n c h g : ℕ} (ms after : List Member) (gs : List RememberedRow) (os fs : List ℕ) (all : Bool) → length fs ≡ n
    → HasConfirmed n c h g n ms gs os after fs all
    → after ≡ with_scan (ended n (width c h g) (settling os fs gs (scan_of ms))) ms
told {n} {c} {h} {g} ms after gs os fs all long is =
    let w : ℕ = width c h g in let z : List ℕ → ScanLog = λ x. settling os x gs (scan_of ms) in
    is.view ∙ (ap (λ (x : List ℕ). with_scan (cond (n == n) (ended n w (z x)) (z x)) ms) (take_all fs n (omega (arith, long)))
    ∙ ap (λ (b : Bool). with_scan (cond b (ended n w (z fs)) (z fs)) ms) (eq-eqb n n refl))

-- lists that differ at a place are two
differ : {n : ℕ} (os fs : List ℕ) → (q : ℕ) × (q < n) × (slice_index os q ≢ slice_index fs q) → os ≢ fs
differ os fs moved = λ e. moved.2 (ap (λ (x : List ℕ). slice_index x moved.0) e)

pub loop-turn-init : goal.loop-turn-init
loop-turn-init g c =
    let ms = members_of (g.S.ScanSeat.bundle c.args.seat.now) in
    let w : ℕ = width g.row.C g.row.H g.row.G in
    let geo = c.requires.may.geometry.workers.0 in
    let z : ScanLog = settling c.args.opened.now [] c.args.remembered.now (scan_of ms) in
    let starts : scan_of ms ≡ z = settling_starts c.args.opened.now c.args.remembered.now (scan_of ms) c.requires.may.remembered
    c.requires.may.looks in
    let no : (0 == g.row.N) ≡ false = ne_eqb 0 g.row.N (λ e. omega (arith, e)) in
    record {
      table = refl;
      leads = c.requires.may.of_board.1;
      confirmed = record {
        starts = c.requires.may.of_board.1;
        wide = c.requires.may.wide;
        known = c.requires.known;
        loaded = c.requires.may.loaded;
        ruled = λ lt. absurd (omega (arith, lt));
        view = sym (ap (λ (b : Bool). with_scan (cond b (ended g.row.N w z) z) ms) no
            ∙ (ap (λ (d : ScanLog). with_scan d ms) (sym starts) ∙ with_same ms));
        risen = λ q lt. absurd (omega (arith, lt));
        held = λ e q lt. absurd (omega (arith, lt));
        moved = λ e. absurd (true≢false e);
      };
    }

pub loop-turn-preserved : goal.loop-turn-preserved
loop-turn-preserved g c =
    let bundle = g.S.ScanSeat.bundle in let ms = members_of (bundle c.args.seat.now) in
    let inv = c.loop-turn.invariant in let r = c.confirm_places-moved in record {
      table = r.ensures.table ∙ inv.table;
      leads = r.ensures.leads;
      confirmed = subst (λ (z : ℕ). HasConfirmed g.row.N g.row.C g.row.H g.row.G z ms c.args.remembered.now c.args.opened.now
          (members_of (bundle r.new.seat)) c.args.opened.now true) (omega arith)
          (c.in_default.ensures.confirmed ms c.args.remembered.now c.requires.may.lengths.0 inv.confirmed);
    }

-- one that was not found again is the last word of it
pub returns-in-Some : goal.returns-in-Some
returns-in-Some g c =
    let n : ℕ = g.row.N in let bundle = g.S.ScanSeat.bundle in let ms = members_of (bundle c.args.seat.now) in
    let l = c.loop-turn in let lens = c.requires.may.lengths in let some_worker = c.requires.may.geometry.workers.0 in
    let os = c.args.opened.now in let gs = c.args.remembered.now in let r = c.confirm_rest in
    let all = r.ensures.confirmed ms gs os (lens.0, lens.1)
    (c.in-Some.ensures.confirmed.1 ms gs lens.0 l.invariant.confirmed) in
    record {
      table = r.ensures.table ∙ (c.confirm_places-moved.ensures.table ∙ l.invariant.table);
      ruled = all.ruled (omega (arith, some_worker));
      view = told ms (members_of (bundle r.new.seat)) gs os r.new.found false
          (r.auto.found ∙ (c.confirm_places-moved.auto.found ∙ (l.auto.found ∙ c.requires.room))) all;
      risen = all.risen;
      moved = λ _. differ os r.new.found (all.moved refl);
    }

pub returns-in-Some-moved : goal.returns-in-Some-moved
returns-in-Some-moved g c =
    let n : ℕ = g.row.N in let bundle = g.S.ScanSeat.bundle in let ms = members_of (bundle c.args.seat.now) in
    let l = c.loop-turn in let f = c.loop-turn-test.false in let end = l.auto.turn-end in
    let lens = c.requires.may.lengths in let some_worker = c.requires.may.geometry.workers.0 in
    let os = c.args.opened.now in let gs = c.args.remembered.now in let r = c.confirm_rest-in-Some-moved in
    let so_far : HasConfirmed n g.row.C g.row.H g.row.G (4 * (n / 4)) ms gs os (members_of (bundle l.seat)) os true =
    subst (λ (z : ℕ). HasConfirmed n g.row.C g.row.H g.row.G (4 * z) ms gs os (members_of (bundle l.seat)) os true)
    (omega (arith, f, end)) l.invariant.confirmed in
    let all = r.ensures.confirmed ms gs os (lens.0, lens.1) (c.in-Some-moved.ensures.confirmed.1 ms gs lens.0 so_far) in
    record {
      table = r.ensures.table ∙ (c.confirm_places-moved-2.ensures.table ∙ l.invariant.table);
      ruled = all.ruled (omega (arith, some_worker));
      view = told ms (members_of (bundle r.new.seat)) gs os r.new.found false
          (r.auto.found ∙ (c.confirm_places-moved-2.auto.found ∙ (l.auto.found ∙ c.requires.room))) all;
      risen = all.risen;
      moved = λ _. differ os r.new.found (all.moved refl);
    }

pub returns : goal.returns
returns g c =
    let n : ℕ = g.row.N in let bundle = g.S.ScanSeat.bundle in
    let ms = members_of (bundle c.args.seat.now) in
    let l = c.loop-turn in let f = c.loop-turn-test.false in let end = l.auto.turn-end in let lens = c.requires.may.lengths in
    let some_worker = c.requires.may.geometry.workers.0 in
    let os = c.args.opened.now in let gs = c.args.remembered.now in let r = c.confirm_places-moved-2 in
    let so_far : HasConfirmed n g.row.C g.row.H g.row.G (4 * (n / 4)) ms gs os (members_of (bundle l.seat)) os true =
    subst (λ (z : ℕ). HasConfirmed n g.row.C g.row.H g.row.G (4 * z) ms gs os (members_of (bundle l.seat)) os true)
    (omega (arith, f, end)) l.invariant.confirmed in
    let all : HasConfirmed n g.row.C g.row.H g.row.G n ms gs os (members_of (bundle r.new.seat)) os true =
    subst (λ (z : ℕ). HasConfirmed n g.row.C g.row.H g.row.G z ms gs os (members_of (bundle r.new.seat)) os true)
    (omega arith) (c.in_default-moved.ensures.confirmed ms gs lens.0 so_far) in
    record {
      table = r.ensures.table ∙ l.invariant.table;
      ruled = all.ruled (omega (arith, some_worker));
      view = told ms (members_of (bundle r.new.seat)) gs os os true lens.1 all;
      risen = all.risen;
      moved = λ t. absurd (true≢false t);
    }
