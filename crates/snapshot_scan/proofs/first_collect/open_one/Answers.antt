use Rattle.std.proofs.Common.{refl, ◌≡◌, ◌≢◌, ◌<◌, ◌+◌, ◌==◌, ℕ, zero, suc, List, [], ◌∷◌, ◌++◌, length, take, set, map, get_or}
use Rattle.std.proofs.Common.{arith, sym, ap, ◌∙◌, subst, below_more, get_or-set_other, get_or-set_same, ⊎_elim}
use mathlib.Core.Option.{some, some-injective}
use mathlib.Core.Logic.{dite}
use native.Mathlib.Decide.{ℕ_discrete}
use Rattle.std.proofs.lemmas.List.Elements.{All-set}
use lib.ListN.{get_elem?}
use Rattle.ledger_core.specs.Ops.{width}
use Rattle.register_rule.proofs.Words.{there}
use Rattle.snapshot_scan.proofs.Settling.{set_at}
use Rattle.register_rule.specs.declared.view.ScanLog.{ScanLog}
use Rattle.register_rule.specs.declared.view.Version.{Version}
use Rattle.register_rule.specs.Members.{led, scan_changed}
use Rattle.register_rule.specs.Seats.{HasMember, members_of}
use Rattle.snapshot_scan.specs.declared.remembered_row.RememberedRow.{RememberedRow}
use Rattle.snapshot_scan.specs.Shape.{scan_of, with_scan, looked_at}
use Rattle.snapshot_scan.specs.RememberedRows.{IsWide, IsLoaded, version_of, opening}
use Rattle.snapshot_scan.proofs.Words.{take_next, length_take, led_some, with_led, from_set, map_set, set_same, at_map}
use Rattle.snapshot_scan.proofs.Opening.{opens_more, loaded}
use Rattle.snapshot_scan.proofs.first_collect.open_one.Goals as goal

-- another place stays
set_elsewhere : {A : Type 0} (l : List A) (i q : ℕ) (a : A) → q ≢ i → get_elem? (set l i a) q ≡ get_elem? l q
set_elsewhere [] i q a other = refl
set_elsewhere (x ∷ l) zero zero a other = absurd (other refl)
set_elsewhere (x ∷ l) zero (suc q) a other = refl
set_elsewhere (x ∷ l) (suc i) zero a other = refl
set_elsewhere (x ∷ l) (suc i) (suc q) a other = set_elsewhere l i q a (λ e. other (ap suc e))

pub returns-clause-leads : goal.returns-clause-leads
returns-clause-leads g c = subst HasMember (sym c.open_or_read.ensures.member) (led_some _ _ c.requires.of_board.1)

pub returns-clause-wide : goal.returns-clause-wide
returns-clause-wide g c = All-set
    (IsWide (width g.row.C g.row.H g.row.G)) c.args.remembered.now c.args.place c.open_or_read.new.self
    c.open_or_read.ensures.wide c.requires.wide

pub returns-clause-opened : goal.returns-clause-opened
returns-clause-opened g c = λ ms rows is.
    let bundle = g.S.ScanSeat.bundle in
    let w : ℕ = width g.row.C g.row.H g.row.G in
    let p = c.args.place in let gs = c.args.remembered.now in let os = c.args.opened.now in let x = c.open_or_read.result in
    let g' : RememberedRow = c.open_or_read.new.self in
    let c0 : ScanLog = scan_of ms in
    let inside = c.requires.inside in
    let lt : p < length gs = omega (arith, inside.0, inside.1) in
    let lt' : p < length os = omega (arith, inside.0, inside.2) in
    let gg : RememberedRow = get_or gs p c.index-remembered-place.result in
    let at : get_elem? gs p ≡ some gg = there gs p c.index-remembered-place.result lt in
    let more : take (p + 1) (set os p x) ≡ take p os ++ x ∷ [] = take_next os p x lt' in
    let deep : length (take p os) ≡ p = length_take os p (omega (arith, lt')) in
    let f = looked_at w p x (gg.number == x) g'.fresh.items in
    let shape : f (opening (take p os) gs c0) ≡ opening (take (p + 1) (set os p x)) (set gs p g') c0 =
    subst (λ (z : ℕ). looked_at w z x (gg.number == x) g'.fresh.items (opening (take p os) gs c0) ≡ opening (take p os ++ x ∷ [])
    (set gs z g') c0) deep
    (opens_more w x (take p os) gs gg g' c0 (ap (get_elem? gs) deep ∙ at) (omega (arith, deep, lt)) c.open_or_read.ensures.same
    (is.remembered ∙ sym is.same) is.due is.asks)
    ∙ ap (λ (z : List ℕ). opening z (set gs p g') c0) (sym more) in
    let view : members_of (bundle c.open_or_read.new.seat) ≡ with_scan (opening (take (p + 1) (set os p x)) (set gs p g') c0) ms =
    c.open_or_read.ensures.member
    ∙ (ap (led (scan_changed f)) is.view
    ∙ (with_led f (opening (take p os) gs c0) ms ∙ ap (λ (d : ScanLog). with_scan d ms) shape)) in
    let number : g'.number ≡ gg.number = ap (λ (v : Version). v.number) c.open_or_read.ensures.same in
    record {
      starts = is.starts;
      remembered = is.remembered;
      due = is.due;
      asks = is.asks;
      wide = λ q y e. ⊎_elim (λ h. is.wide q y h) (λ h. subst (IsWide w) h.0 c.open_or_read.ensures.wide) (from_set gs p g' q y
          e);
      same = map_set version_of gs p g'
          ∙ (ap (set (map version_of gs) p) c.open_or_read.ensures.same
          ∙ (set_same (map version_of gs) p (version_of gg) (at_map version_of gs p gg at) ∙ is.same));
      view = view;
      known = λ t q y sm at'. let both = c.open_or_read.ensures.known t in dite (ℕ_discrete q p)
          (λ here. let yg : y ≡ g' = some-injective y g' (sym at' ∙ (ap (get_elem? (set gs p g')) here ∙ set_at gs p g' gg at)) in
          ap (λ (k : RememberedRow). k.number) yg ∙ (number ∙ (both.1
          ∙ (sym (get_or-set_same os p x 0 lt') ∙ ap (λ (i : ℕ). get_or (set os p x) i 0) (sym here)))))
          (λ other. let low : q < p = omega (arith, sm, other) in
          ⊎_elim (λ h. is.known both.0 q y low h ∙ sym (get_or-set_other os p q x 0 other)) (λ h. absurd (other h.1))
          (from_set gs p g' q y at'));
      unknown = λ t. ⊎_elim (λ h. let old = is.unknown h in let low = old.2 in
          let other : old.0 ≢ p = λ e. omega (arith, low, e) in (
            old.0,
            old.1,
            omega (arith, low),
            set_elsewhere gs p old.0 g' other ∙ old.3,
            λ e. old.4 (e ∙ get_or-set_other os p old.0 x 0 other),
          ))
          (λ differs. (
            p,
            g',
            omega arith,
            set_at gs p g' gg at,
            λ e. differs (sym number ∙ (e ∙ get_or-set_same os p x 0 lt')),
          ))
          (c.open_or_read.ensures.unknown t);
      told = below_more (λ (q : ℕ). IsLoaded q c0 (get_or (set os p x) q 0)) p
          (λ q h. let ne : q ≢ p = omega (arith, h) in subst (IsLoaded q c0) (sym (get_or-set_other os p q x 0 ne)) (is.told q h))
          (subst (IsLoaded p c0) (sym (get_or-set_same os p x 0 lt'))
          (loaded p x c0 (take p os) gs ms _ is.starts is.view c.open_or_read.ensures.told));
    }
