use Rattle.std.proofs.Common.{refl, ◌≡◌, ◌≢◌, ◌<◌, ◌+◌, ◌≤◌, ◌==◌, Bool, true, false, cond, ℕ, zero, suc, List, [], ◌∷◌, ◌++◌}
use Rattle.std.proofs.Common.{length, take, set, get_or, arith, sym, ap, ◌∙◌, subst, below_more, get_or-set_other}
use Rattle.std.proofs.Common.{get_or-set_same, eq-eqb, ne_eqb, ⊎_elim}
use mathlib.Core.Option.{some}
use Rattle.std.proofs.lemmas.Bool.{eqb-true, eqb-false, and_parts, and_cases}
use lib.ListN.{get_elem?}
use Rattle.ledger_core.specs.Ops.{width}
use Rattle.register_rule.proofs.Words.{there}
use Rattle.register_rule.specs.declared.view.ScanLog.{ScanLog}
use Rattle.register_rule.specs.Members.{led, scan_changed}
use Rattle.register_rule.specs.ScanSteps.{ended, after_confirm, confirmed_at}
use Rattle.register_rule.specs.Seats.{HasMember, members_of}
use Rattle.snapshot_scan.specs.declared.remembered_row.RememberedRow.{RememberedRow}
use Rattle.snapshot_scan.specs.Shape.{scan_of, with_scan}
use Rattle.snapshot_scan.specs.RememberedRows.{version_of, words_of, settling}
use Rattle.snapshot_scan.proofs.Words.{set_same, take_next, length_take, led_some, with_led, scan_with}
use Rattle.snapshot_scan.proofs.Settling.{confirms_more, words_wide}
use Rattle.snapshot_scan.proofs.second_collect.confirm_one.Goals as goal

-- a row that is remembered is remembered again, or stays
stays : (o s : ℕ) (x : RememberedRow) → x.number ≡ o → version_of x ≡ cond (o == s) (record { number = o; row = words_of o x })
    (version_of x)
stays o s x e = go (o == s)
  where
    go : (b : Bool) → version_of x ≡ cond b (record { number = o; row = words_of o x }) (version_of x)
    go true = λ z. record {
      number = e z;
      row = sym (ap (λ (t : Bool). cond t x.row.items x.fresh.items) (eq-eqb x.number o e)) z;
    }
    go false = refl

at_some : (l : List RememberedRow) (i : ℕ) → i < length l → (x : RememberedRow) × (get_elem? l i ≡ some x)
at_some [] i h = absurd (omega (arith, h))
at_some (x ∷ l) zero h = (x, refl)
at_some (x ∷ l) (suc i) h = at_some l i (omega (arith, h))

pub returns-clause-leads : goal.returns-clause-leads
returns-clause-leads g c = subst HasMember (sym c.confirm.ensures.learns.member) (led_some _ _ c.requires.of_board.1)

pub returns-clause-confirmed : goal.returns-clause-confirmed
returns-clause-confirmed g c = λ ms gs os fs all lens is.
    let bundle = g.S.ScanSeat.bundle in
    let w : ℕ = width g.row.C g.row.H g.row.G in
    let n : ℕ = g.row.N in
    let p = c.args.place in let few = lens.0 in
    let s = c.confirm.result in
    let o = get_or os p 0 in
    let c0 : ScanLog = scan_of ms in
    let ltn : p < n = c.requires.inside in
    let lt : p < length gs = omega (arith, few, ltn) in
    let elem = at_some gs p lt in let gg : RememberedRow = elem.0 in
    let lto : p < length os = omega (arith, lens.1, ltn) in
    let ltf : p < length fs = omega (arith, lens.2, ltn) in
    let at : get_elem? gs p ≡ some gg = elem.1 in
    let ato : get_elem? os p ≡ some o = there os p 0 lto in
    let more : take (p + 1) (set fs p s) ≡ take p fs ++ s ∷ [] = take_next fs p s ltf in
    let deep : length (take p fs) ≡ p = length_take fs p (omega (arith, ltf)) in
    let z : ScanLog = settling os (take p fs) gs c0 in
    let z' : ScanLog = settling os (take (p + 1) (set fs p s)) gs c0 in
    let shape : confirmed_at w p s z ≡ z' =
    subst (λ (i : ℕ). confirmed_at w i s z ≡ settling os (take p fs ++ s ∷ []) (set gs i gg) c0) deep
    (confirms_more w s o os (take p fs) gs gg gg c0 (ap (get_elem? os) deep ∙ ato) (ap (get_elem? gs) deep ∙ at)
    (words_wide w o gg (is.wide p gg at)) refl (stays o s gg (is.known p gg at)))
    ∙ (λ i. settling os (sym more i) (set_same gs p gg at i) c0) in
    let no : (p == n) ≡ false = ne_eqb p n (λ e. omega (arith, e, ltn)) in
    let was : members_of (bundle c.args.seat.now) ≡ with_scan z ms = is.view
    ∙ ap (λ (b : Bool). with_scan (cond b (ended n w z) z) ms) no in
    let view : members_of (bundle c.confirm.new.seat) ≡ with_scan (cond ((p + 1) == n) (ended n w z') z') ms =
    c.confirm.ensures.learns.member
    ∙ (ap (led (scan_changed (after_confirm n w p s))) was ∙ (with_led (after_confirm n w p s) z ms
    ∙ ap (λ (d : ScanLog). with_scan (cond ((p + 1) == n) (ended n w d) d) ms) shape)) in
    let scan : scan_of (members_of (bundle c.args.seat.now)) ≡ z = ap scan_of was ∙ scan_with z ms is.starts in
    let risen : o ≤ s = let at_load = is.loaded p ltn in
    c.confirm.ensures.told.opened at_load.0 o (ap (λ (d : ScanLog). get_elem? d.opened at_load.0) scan ∙ at_load.1) in
    record {
      starts = is.starts;
      wide = is.wide;
      known = is.known;
      loaded = is.loaded;
      ruled = λ _. c.confirm.ensures.learns.ruled;
      view = view;
      risen = below_more (λ (q : ℕ). get_or os q 0 ≤ get_or (set fs p s) q 0) p
          (λ q h. let ne : q ≢ p = omega (arith, h) in let e = get_or-set_other fs p q s 0 ne in let r = is.risen q h in
          omega (arith, e, r))
          (let e = get_or-set_same fs p s 0 ltf in omega (arith, e, risen));
      held = λ t. let both = and_parts all (o == s) t in below_more (λ (q : ℕ). get_or os q 0 ≡ get_or (set fs p s) q 0) p
          (λ q h. let ne : q ≢ p = omega (arith, h) in is.held both.0 q h ∙ sym (get_or-set_other fs p q s 0 ne))
          (eqb-true o s both.1 ∙ sym (get_or-set_same fs p s 0 ltf));
      moved = λ t. ⊎_elim (λ h. let old = is.moved h in let low = old.1 in let other : old.0 ≢ p = λ e. omega (arith, low, e) in
          (old.0, omega (arith, low), λ e. old.2 (e ∙ get_or-set_other fs p old.0 s 0 other)))
          (λ h. (p, omega arith, λ e. eqb-false o s h (e ∙ get_or-set_same fs p s 0 ltf)))
          (and_cases all (o == s) t);
    }
