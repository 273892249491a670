use Rattle.std.proofs.Common.{◌≡◌, ◌<◌, ◌≤◌, ◌+◌, ℕ, zero, suc, Bool, true, false, cond, List, [], ◌∷◌, ◌++◌, length, drop}
use Rattle.std.proofs.Common.{drop-cons, map, get_or, sym, refl, ap, ◌∙◌, subst, arith, rules}
use Rattle.std.proofs.lemmas.Bool.{lt-leb}
use Rattle.std.proofs.lemmas.List.{append-nil, append_assoc}
use mathlib.Core.Option.{some-ne-none}
use Rattle.ledger_core.specs.Ops.{width}
use Rattle.register_rule.specs.declared.view.Asked.{Asked}
use Rattle.register_rule.specs.declared.view.ScanLog.{ScanLog}
use Rattle.register_rule.specs.ScanSteps.{answered, given_up_if_spent, lent_in}
use Rattle.segment_layout.specs.Layout.{IsGeometry}
use Rattle.register_rule.specs.declared.board.Board.{Board}
use Rattle.register_rule.specs.declared.seats.Bundle.{Bundle}
use Rattle.register_rule.specs.Seats.{HasMember, MayScan, table_of, members_of}
use Rattle.snapshot_scan.specs.Conditions.{MayAskOne}
use Rattle.register_rule.proofs.Words.{each_push}
use Rattle.snapshot_scan.specs.Shape.{scan_of, with_scan}
use Rattle.snapshot_scan.specs.Asking.{DoesNotLend, asked_too, refused, refused_all, due_from, asked_worker, MayAsk}
use Rattle.snapshot_scan.proofs.Words.{scan_with, with_same, led_some, with_led}
use Rattle.snapshot_scan.proofs.Opening.{map_both}
use Rattle.snapshot_scan.proofs.Asking.{may_next, refused_snoc, due_here}
use Rattle.snapshot_scan.proofs.asks.ask_all.Goals as goal

-- what asking needs here
floor_here : (low more : List ℕ) (p : ℕ) (c : ScanLog) → MayAsk low (p ∷ more) c → c.trying.floor ≡ low
floor_here low more p c may = may.floor (λ h. let h' = h in cc)

-- the worker at the place p may be asked, where it is to be
ask_here : {N C H G : ℕ} (b : Board N C H G) (s s' : Bundle) (p row : ℕ) (base found floor words : List ℕ) (es : List Asked)
    → MayScan b s → IsGeometry N C H G
    → (row ≡ width C H G) × (length floor ≡ N) × (length base ≡ N) × (length found ≡ N) × (length words ≡ 1 + N + width C H G)
    → table_of s' ≡ table_of s
    → MayAsk floor (due_from p (drop p base) (drop p found)) (refused_all N es (scan_of (members_of s)))
    → members_of s' ≡ with_scan (refused_all N es (scan_of (members_of s))) (members_of s)
    → p < length found → get_or base p 0 + 2 ≤ get_or found p 0 → MayAskOne b s' p row floor words
ask_here {N} {C} {H} {G} b s s' p row base found floor words es own geo lens same ask view lt due =
    let d : ScanLog = refused_all N es (scan_of (members_of s)) in
    let more = due_from (p + 1) (drop (p + 1) base) (drop (p + 1) found) in
    let e : due_from p (drop p base) (drop p found) ≡ p ∷ more = due_here p base found (omega (arith, lens.2, lens.3)) lt due in
    let may : MayAsk floor (p ∷ more) d = subst (λ (l : List ℕ). MayAsk floor l d) e ask in
    let scan : scan_of (members_of s') ≡ d = ap scan_of view ∙ scan_with _ (members_of s) own.1 in record {
      of_board = (same ∙ own.0, subst HasMember (sym view) (led_some (λ _. d) (members_of s) own.1));
      geometry = geo;
      inside = omega (arith, lens.3, lt);
      lengths = (lens.0, lens.1, lens.4);
      next = (more, ap (λ (x : ScanLog). x.trying.due) scan ∙ may.due);
      rest = (ap (λ (x : ScanLog). x.trying.looks) scan ∙ may.looks, ap (λ (x : ScanLog). x.trying.asks) scan ∙ may.asks);
      floor = ap (λ (x : ScanLog). x.trying.floor) scan ∙ floor_here floor more p d may;
    }

pub loop-place-init : goal.loop-place-init
loop-place-init g c =
    let s = g.S.ScanSeat.bundle c.args.seat.now in let ms = members_of s in let view = sym (with_same ms) in (
      [],
      record {
        table = search rules;
        ruled = c.requires.ruled;
        leads = c.requires.of_board.1;
        asked = refl;
        refuses = λ q e at. absurd (some-ne-none e (sym at));
        may = c.requires.may_ask;
        asks = ask_here c.args.board.now s s 0 c.args.row c.args.base.now c.args.found.now c.args.floor.now c.args.lent.now []
            c.requires.of_board c.requires.geometry c.requires.lengths refl c.requires.may_ask view;
        view = view;
      },
    )

pub returns-then-lends-clause-lends : goal.returns-then-lends-clause-lends
returns-then-lends-clause-lends g c = λ _.
    let p = c.loop-place.place in let base = c.args.base.now in let found = c.args.found.now in
    let ms = members_of (g.S.ScanSeat.bundle c.args.seat.now) in
    let n : ℕ = g.row.N in let w : ℕ = width g.row.C g.row.H g.row.G in
    let es = c.loop-place.invariant.0 in let inv = c.loop-place.invariant.1 in
    let lens = c.requires.lengths in let t = c.loop-place-test.true in
    let h : get_or base p 0 + 2 ≤ get_or found p 0 = c.if-not-due.ensures.0 refl in
    let more = due_from (p + 1) (drop (p + 1) base) (drop (p + 1) found) in
    let d : due_from p (drop p base) (drop p found) ≡ p ∷ more = due_here p base found (omega (arith, lens.2, lens.3)) t h in
    let scan : scan_of (members_of (g.S.ScanSeat.bundle c.loop-place.seat)) ≡ refused_all n es (scan_of ms) = ap scan_of inv.view
    ∙ scan_with _ ms c.requires.of_board.1 in
    let l = c.ask-lends.ensures.lends c.if-lends.true in
    let e : Asked = l.0 in
    let a = lent_in n w c.ask-lends.new.lent in (
      es,
      e,
      more,
      ap (λ (z : ℕ). map asked_worker es ++ z ∷ more) l.1 ∙ (ap (λ (z : List ℕ). map asked_worker es ++ z) (sym d) ∙ inv.asked),
      inv.refuses,
      l.2,
      l.3,
      l.4 ∙ (ap (λ (x : ScanLog). with_scan (answered a (asked_too e x)) (members_of
          (g.S.ScanSeat.bundle c.loop-place.seat))) scan
          ∙ (ap (with_scan (answered a (asked_too e (refused_all n es (scan_of ms))))) inv.view
          ∙ with_led (λ _. answered a (asked_too e (refused_all n es (scan_of ms)))) (refused_all n es (scan_of ms)) ms)),
    )

pub loop-place-preserved : goal.loop-place-preserved
loop-place-preserved g c =
    let p = c.loop-place.place in let base = c.args.base.now in let found = c.args.found.now in
    let ms = members_of (g.S.ScanSeat.bundle c.args.seat.now) in
    let n : ℕ = g.row.N in
    let es = c.loop-place.invariant.0 in let inv = c.loop-place.invariant.1 in
    let lens = c.requires.lengths in let t = c.loop-place-test.true in
    let h : get_or base p 0 + 2 ≤ get_or found p 0 = c.if-not-due.ensures.0 refl in
    let more = due_from (p + 1) (drop (p + 1) base) (drop (p + 1) found) in
    let d : due_from p (drop p base) (drop p found) ≡ p ∷ more = due_here p base found (omega (arith, lens.2, lens.3)) t h in
    let scan : scan_of (members_of (g.S.ScanSeat.bundle c.loop-place.seat)) ≡ refused_all n es (scan_of ms) = ap scan_of inv.view
    ∙ scan_with _ ms c.requires.of_board.1 in
    let r = c.ask-lends.ensures.refuses c.if-lends.false in
    let e : Asked = r.0 in
    let snoc = refused_snoc n es e (scan_of ms) in
    let view : members_of (g.S.ScanSeat.bundle c.ask-lends.new.seat) ≡ with_scan (refused_all n (es ++ e ∷ []) (scan_of ms)) ms =
    r.3 ∙ (ap (λ (x : ScanLog). with_scan (given_up_if_spent n (refused e x)) (members_of
    (g.S.ScanSeat.bundle c.loop-place.seat))) scan
    ∙ (ap (with_scan (given_up_if_spent n (refused e (refused_all n es (scan_of ms))))) inv.view
    ∙ (with_led (λ _. given_up_if_spent n (refused e (refused_all n es (scan_of ms)))) (refused_all n es (scan_of ms)) ms
    ∙ ap (λ (x : ScanLog). with_scan x ms) (sym snoc)))) in
    let own = c.ask-lends.ensures.table ∙ inv.table in
    let may : MayAsk c.args.floor.now more (refused_all n (es ++ e ∷ []) (scan_of ms)) =
    subst (MayAsk c.args.floor.now more) (sym snoc) (may_next n p e c.args.floor.now more (refused_all n es (scan_of ms))
    (subst (λ (l : List ℕ). MayAsk c.args.floor.now l (refused_all n es (scan_of ms))) d inv.may)) in (
      es ++ e ∷ [],
      record {
        table = own;
        ruled = c.ask-lends.ensures.ruled;
        leads = subst HasMember (sym view) (led_some (λ _. refused_all n (es ++ e ∷ []) (scan_of ms)) ms c.requires.of_board.1);
        asked = ap (λ (z : List ℕ). z ++ more) (map_both asked_worker es e)
            ∙ (append_assoc (map asked_worker es) (asked_worker e ∷ []) more
            ∙ (ap (λ (z : ℕ). map asked_worker es ++ z ∷ more) r.1
            ∙ (ap (λ (z : List ℕ). map asked_worker es ++ z) (sym d) ∙ inv.asked)));
        refuses = each_push (DoesNotLend g.row.N c.args.floor.now) es e inv.refuses r.2;
        may = may;
        asks = ask_here c.args.board.now (g.S.ScanSeat.bundle c.args.seat.now) (g.S.ScanSeat.bundle c.ask-lends.new.seat) (p + 1)
            c.args.row base found c.args.floor.now c.ask-lends.new.lent (es ++ e ∷ []) c.requires.of_board c.requires.geometry
            (lens.0, lens.1, lens.2, lens.3, c.ask-lends.auto.lent ∙ (c.loop-place.auto.lent ∙ lens.4)) own may view;
        view = view;
      },
    )

-- a worker that is not to be asked
not_due : (p : ℕ) (base found : List ℕ) → p < length base → p < length found → get_or found p 0 < get_or base p 0 + 2
    → due_from p (drop p base) (drop p found) ≡ due_from (p + 1) (drop
    (p + 1) base) (drop (p + 1) found)
not_due p base found hb hf h = let e : suc p ≡ p + 1 = omega arith in
    (λ z. due_from p (drop-cons base p 0 hb z) (drop-cons found p 0 hf z))
    ∙ (ap (λ (b : Bool). cond b (p ∷ due_from (suc p) (drop (suc p) base) (drop (suc p) found)) (due_from (suc p)
    (drop (suc p) base) (drop (suc p) found))) (lt-leb _ _ h)
    ∙ ap (λ (k : ℕ). due_from k (drop k base) (drop k found)) e)

none_left : (l : List ℕ) (n : ℕ) → length l ≤ n → drop n l ≡ []
none_left [] zero h = refl
none_left [] (suc n) h = refl
none_left (x ∷ l) zero h = absurd (omega (arith, h))
none_left (x ∷ l) (suc n) h = none_left l n (omega (arith, h))

false_true : false ≡ true → ⊥
false_true e = cc

pub loop-place-preserved-then-not-due : goal.loop-place-preserved-then-not-due
loop-place-preserved-then-not-due g c =
    let p = c.loop-place.place in let base = c.args.base.now in let found = c.args.found.now in
    let ms = members_of (g.S.ScanSeat.bundle c.args.seat.now) in
    let es = c.loop-place.invariant.0 in let inv = c.loop-place.invariant.1 in
    let lens = c.requires.lengths in let t = c.loop-place-test.true in
    let no : get_or base p 0 + 2 ≤ get_or found p 0 → ⊥ = λ h. false_true (c.if-not-due.ensures.1 h) in
    let d = not_due p base found (omega (arith, lens.2, lens.3, t)) t (omega (arith, no)) in
    let may : MayAsk c.args.floor.now (due_from (p + 1) (drop (p + 1) base) (drop (p + 1) found))
    (refused_all g.row.N es (scan_of ms)) =
    subst (λ (l : List ℕ). MayAsk c.args.floor.now l (refused_all g.row.N es (scan_of ms))) d inv.may in (
      es,
      record {
        table = inv.table;
        ruled = inv.ruled;
        leads = inv.leads;
        asked = ap (λ (l : List ℕ). map asked_worker es ++ l) (sym d) ∙ inv.asked;
        refuses = inv.refuses;
        may = may;
        asks = ask_here c.args.board.now (g.S.ScanSeat.bundle c.args.seat.now) (g.S.ScanSeat.bundle c.loop-place.seat) (p + 1)
            c.args.row base found c.args.floor.now c.loop-place.lent es c.requires.of_board c.requires.geometry
            (lens.0, lens.1, lens.2, lens.3, c.loop-place.auto.lent ∙ lens.4) inv.table may inv.view;
        view = inv.view;
      },
    )

pub returns-clause-refuses : goal.returns-clause-refuses
returns-clause-refuses g c = λ _.
    let p = c.loop-place.place in let base = c.args.base.now in let found = c.args.found.now in
    let es = c.loop-place.invariant.0 in let inv = c.loop-place.invariant.1 in
    let lens = c.requires.lengths in let f = c.loop-place-test.false in
    let end : due_from p (drop p base) (drop p found) ≡ [] = ap (λ (l : List ℕ). due_from p l (drop p found))
    (none_left base p (omega (arith, lens.2, lens.3, f))) in (
      es,
      sym (append-nil (map asked_worker es)) ∙ (ap (λ (l : List ℕ). map asked_worker es ++ l) (sym end) ∙ inv.asked),
      inv.refuses,
      inv.view,
    )
