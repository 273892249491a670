use Rattle.std.proofs.Common.{◌≡◌, ◌≢◌, ◌<◌, ◌+◌, ◌≤◌, ◌==◌, Bool, false, cond, ℕ, List, [], ◌∷◌, ◌++◌, length, take, set, get_or}
use Rattle.std.proofs.Common.{arith, rules, sym, ap, ◌∙◌, subst, below_more, get_or-set_other, get_or-set_same, ⊎_elim, eq-eqb}
use Rattle.std.proofs.Common.{ne_eqb}
use mathlib.Core.Option.{some, some-injective}
use mathlib.Core.Logic.{dite}
use native.Mathlib.Decide.{ℕ_discrete}
use Rattle.register_rule.specs.declared.view.Version.{Version}
use lib.ListN.{get_elem?}
use Rattle.ledger_core.specs.Ops.{width}
use Rattle.register_rule.proofs.Words.{there, at_below}
use Rattle.register_rule.specs.declared.view.ScanLog.{ScanLog}
use Rattle.register_rule.specs.Members.{led, scan_changed}
use Rattle.register_rule.specs.ScanSteps.{ended, after_confirm, confirmed_at}
use Rattle.register_rule.specs.Seats.{HasMember, members_of}
use Rattle.snapshot_scan.specs.declared.remembered_row.RememberedRow.{RememberedRow}
use Rattle.snapshot_scan.specs.Shape.{scan_of, with_scan}
use Rattle.snapshot_scan.specs.ChangedItems.{ListsChanges}
use Rattle.snapshot_scan.specs.RememberedRows.{IsWide, version_of, words_of, settling}
use Rattle.snapshot_scan.proofs.Words.{take_next, take_all, length_take, led_some, with_led, with_same, scan_with, from_set}
use Rattle.snapshot_scan.proofs.Settling.{confirms_more, row_in, sum_low, sum_set, words_wide, settling_starts, set_at}
use Rattle.snapshot_scan.proofs.Moving.{moves_none, moves_then}
use Rattle.snapshot_scan.proofs.second_collect.confirm_and_settle.Goals as goal

pub loop-place-init : goal.loop-place-init
loop-place-init g c =
    let ms = members_of (g.S.ScanSeat.bundle c.args.seat.now) in
    let w : ℕ = width g.row.C g.row.H g.row.G in
    let geo = c.requires.may.geometry.workers.0 in
    let z : ScanLog = settling c.args.opened.now [] c.args.remembered.now (scan_of ms) in
    let starts : scan_of ms ≡ z = settling_starts c.args.opened.now c.args.remembered.now (scan_of ms) c.requires.may.remembered
    c.requires.may.looks in
    let no : (0 == g.row.N) ≡ false = ne_eqb 0 g.row.N (λ e. omega (arith, e)) in
    record {
      table = search rules;
      ruled = λ lt. absurd (omega (arith, lt));
      may = c.requires.may.of_board;
      few = c.requires.may.lengths.0;
      wide = c.requires.may.wide;
      totals = c.requires.sums.1;
      view = sym (ap (λ (b : Bool). with_scan (cond b (ended g.row.N w z) z) ms) no
          ∙ (ap (λ (d : ScanLog). with_scan d ms) (sym starts) ∙ with_same ms));
      moves = moves_none w c.args.totals.now c.args.changed_totals.now;
      risen = λ q lt. absurd (omega (arith, lt));
      held = λ q x lt. absurd (omega (arith, lt));
    }

pub settle-requires : goal.settle-requires
settle-requires g c =
    let w : ℕ = width g.row.C g.row.H g.row.G in
    let p = c.loop-place.place in let gs = c.loop-place.remembered in
    let gg : RememberedRow = get_or gs p c.index-remembered-place.result in
    let inv = c.loop-place.invariant in
    let lens = c.requires.may.lengths in let a1 = c.loop-place.auto.remembered in let a3 = c.loop-place.auto.totals in
    let t = c.loop-place-test.true in
    let geo = c.requires.may.geometry.workers.1 in
    let lt : p < length gs = omega arith in
    let at : get_elem? gs p ≡ some gg = there gs p c.index-remembered-place.result lt in
    let long : w ≡ length c.loop-place.totals = sym (a3 ∙ c.requires.sums.0) in
    record {
      wide = subst (λ (z : ℕ). IsWide z gg) long (inv.wide p gg at);
      part = λ k below. let low : k < w = omega (arith, long, below) in
          let e = inv.totals k low in let r = row_in k gs p gg at in let s = sum_low w k gs low inv.wide in
          let n : length gs ≤ 32 = omega (arith, lens.0) in
          (omega (arith, e, r), omega (arith, e, s, n));
    }

pub loop-place-preserved : goal.loop-place-preserved
loop-place-preserved g c =
    let bundle = g.S.ScanSeat.bundle in
    let w : ℕ = width g.row.C g.row.H g.row.G in
    let n : ℕ = g.row.N in
    let p = c.loop-place.place in let gs = c.loop-place.remembered in let fs = c.loop-place.found in let os = c.args.opened.now in
    let s = c.confirm-number.result in let g' : RememberedRow = c.settle.new.self in let ts' = c.settle.new.totals in
    let gg : RememberedRow = get_or gs p c.index-remembered-place.result in
    let o = get_or os p 0 in
    let ms = members_of (bundle c.args.seat.now) in
    let c0 : ScanLog = scan_of ms in
    let inv = c.loop-place.invariant in
    let lens = c.requires.may.lengths in let a1 = c.loop-place.auto.remembered in let a2 = c.loop-place.auto.found in
    let a3 = c.loop-place.auto.totals in let t = c.loop-place-test.true in
    let ltn : p < n = omega (arith, lens.0) in
    let lt : p < length gs = omega arith in
    let lto : p < length os = omega (arith, lens.1, ltn) in
    let ltf : p < length fs = omega (arith, c.requires.room, ltn) in
    let at : get_elem? gs p ≡ some gg = there gs p c.index-remembered-place.result lt in
    let ato : get_elem? os p ≡ some o = there os p 0 lto in
    let more : take (p + 1) (set fs p s) ≡ take p fs ++ s ∷ [] = take_next fs p s ltf in
    let deep : length (take p fs) ≡ p = length_take fs p (omega arith) in
    let z : ScanLog = settling os (take p fs) gs c0 in
    let z' : ScanLog = settling os (take (p + 1) (set fs p s)) (set gs p g') c0 in
    let shape : confirmed_at w p s z ≡ z' =
    subst (λ (i : ℕ). confirmed_at w i s z ≡ settling os (take p fs ++ s ∷ []) (set gs i g') c0) deep
    (confirms_more w s o os (take p fs) gs gg g' c0 (ap (get_elem? os) deep ∙ ato) (ap (get_elem? gs) deep ∙ at)
    (words_wide w o gg (inv.wide p gg at)) c.settle.ensures.words c.settle.ensures.version)
    ∙ ap (λ (l : List ℕ). settling os l (set gs p g') c0) (sym more) in
    let no : (p == n) ≡ false = ne_eqb p n (λ e. omega (arith, e, ltn)) in
    let was : members_of (bundle c.loop-place.seat) ≡ with_scan z ms = inv.view
    ∙ ap (λ (b : Bool). with_scan (cond b (ended n w z) z) ms) no in
    let view : members_of (bundle c.confirm-number.new.seat) ≡ with_scan (cond ((p + 1) == n) (ended n w z') z') ms =
    c.confirm-number.ensures.learns.member
    ∙ (ap (led (scan_changed (after_confirm n w p s))) was ∙ (with_led (after_confirm n w p s) z ms
    ∙ ap (λ (d : ScanLog). with_scan (cond ((p + 1) == n) (ended n w d) d) ms) shape)) in
    let scan : scan_of (members_of (bundle c.loop-place.seat)) ≡ z = ap scan_of was ∙ scan_with z ms c.requires.may.of_board.1 in
    let risen : o ≤ s = let at_load = c.requires.may.loaded p ltn in
    c.confirm-number.ensures.told.opened at_load.0 o (ap (λ (d : ScanLog). get_elem? d.opened at_load.0) scan ∙ at_load.1) in
    let long : length c.loop-place.totals ≡ w = a3 ∙ c.requires.sums.0 in
    record {
      table = c.confirm-number.ensures.learns.table ∙ inv.table;
      ruled = λ _. c.confirm-number.ensures.learns.ruled;
      may = (
        c.confirm-number.ensures.learns.table ∙ inv.may.0,
        subst HasMember (sym c.confirm-number.ensures.learns.member) (led_some (after_confirm n w p s) _ inv.may.1),
      );
      few = search rules;
      wide = λ q y e. ⊎_elim (λ h. inv.wide q y h)
          (λ h. subst (IsWide w) h.0 (subst (λ (k : ℕ). IsWide k g') long c.settle.ensures.wide)) (from_set gs p g' q y e);
      totals = λ k low. let e = inv.totals k low in let h = sum_set k gs p gg g' at in
          let d = c.settle.ensures.totals k (omega (arith, long, low)) in omega (arith, e, h, d);
      view = view;
      moves = moves_then w c.args.totals.now c.loop-place.totals ts' c.args.changed_totals.now c.loop-place.changed_totals
          c.settle.new.changed_totals
          inv.moves
          (subst (λ (k : ℕ). ListsChanges k c.loop-place.totals ts' c.loop-place.changed_totals c.settle.new.changed_totals)
          long c.settle.ensures.changed_totals);
      risen = below_more (λ (q : ℕ). get_or os q 0 ≤ get_or (set fs p s) q 0) p
          (λ q h. let ne : q ≢ p = omega (arith, h) in
          subst (λ (x : ℕ). get_or os q 0 ≤ x) (sym (get_or-set_other fs p q s 0 ne)) (inv.risen q h))
          (subst (λ (x : ℕ). o ≤ x) (sym (get_or-set_same fs p s 0 ltf)) risen);
      held = λ q x h e same. dite (ℕ_discrete q p)
          (λ is. let xe : g' ≡ x =
          some-injective g' x (sym (set_at gs p g' gg at) ∙ (ap (get_elem? (set gs p g')) (sym is) ∙ e)) in
          let oe : o ≡ s = ap (λ (i : ℕ). get_or os i 0) (sym is)
          ∙ (same ∙ (ap (λ (i : ℕ). get_or (set fs p s) i 0) is ∙ get_or-set_same fs p s 0 ltf)) in
          ap (λ (k : RememberedRow). k.number) (sym xe)
          ∙ (ap (λ (v : Version). v.number)
          (c.settle.ensures.version ∙ ap (λ (b : Bool). cond b (record { number = o; row = words_of o gg }) (version_of gg))
          (eq-eqb o s oe)) ∙ ap (λ (i : ℕ). get_or os i 0) (sym is)))
          (λ other. ⊎_elim (λ before. inv.held q x (omega (arith, other, h)) before (same ∙ get_or-set_other fs p q s 0 other))
          (λ here. absurd (other here.1)) (from_set gs p g' q x e));
    }

pub returns-clause-view : goal.returns-clause-view
returns-clause-view g c =
    let ms = members_of (g.S.ScanSeat.bundle c.args.seat.now) in
    let w : ℕ = width g.row.C g.row.H g.row.G in
    let n : ℕ = g.row.N in
    let lens = c.requires.may.lengths in let a1 = c.loop-place.auto.remembered in let a2 = c.loop-place.auto.found in
    let f = c.loop-place-test.false in let last = c.loop-place.auto.place-end in
    let p = c.loop-place.place in
    let e : p ≡ n = omega (arith, lens.0) in
    let z : List ℕ → ScanLog = λ l. settling c.args.opened.now l c.loop-place.remembered (scan_of ms) in
    c.loop-place.invariant.view
    ∙ (ap (λ (l : List ℕ). with_scan (cond (p == n) (ended n w (z l)) (z l)) ms)
    (take_all c.loop-place.found p (omega (arith, c.requires.room)))
    ∙ ap (λ (b : Bool). with_scan (cond b (ended n w (z c.loop-place.found)) (z c.loop-place.found)) ms) (eq-eqb p n e))

pub returns-clause-held : goal.returns-clause-held
returns-clause-held g c = λ q x e same.
    let below = at_below c.loop-place.remembered q x e in let f = c.loop-place-test.false in
    let a1 = c.loop-place.auto.remembered in
    c.loop-place.invariant.held q x (omega arith) e same

pub returns-clause-ruled : goal.returns-clause-ruled
returns-clause-ruled g c = let f = c.loop-place-test.false in let lens = c.requires.may.lengths in
    let some_worker = c.requires.may.geometry.workers.0 in let last = c.loop-place.auto.place-end in
    let a1 = c.loop-place.auto.remembered in
    c.loop-place.invariant.ruled (omega (arith, lens.0))
