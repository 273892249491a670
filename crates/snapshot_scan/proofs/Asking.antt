-- Asking a worker.
use Rattle.std.proofs.Common.{Option, Some, None, ◌≡◌, inl, inr, ℕ, zero, suc, ◌+◌, ◌<◌, ◌≤◌, eqb, Bool, true, false, cond, ◌&&◌}
use Rattle.std.proofs.Common.{not, ◌==◌, nat_le, List, [], ◌∷◌, ◌++◌, length, take, drop, drop-cons, get_or, slice_index, sym}
use Rattle.std.proofs.Common.{refl, ap, ◌∙◌, subst, arith, eq-eqb, append_assoc}
use Rattle.std.proofs.lemmas.List.{append-nil}
use mathlib.Core.Logic.{dite}
use native.Mathlib.Decide.{ℕ_discrete, dec_le}
use mathlib.Core.Option.{some, some-injective, some-ne-none}
use lib.ListN.{get_elem?}
use Rattle.ledger_core.specs.declared.op.Op.{Op}
use Rattle.std.proofs.Math.Bool.{and-false}
use Rattle.std.proofs.lemmas.Bool.{and_parts, eqb-true, leb-true, le-leb, lt-leb}
use Rattle.ledger_core.specs.Vectors.{is_above}
use Rattle.register_rule.specs.declared.view.Answer.{Answer}
use Rattle.register_rule.specs.Sums.{last_lent, flag_of}
use Rattle.register_rule.specs.declared.view.Look.{Look}
use Rattle.register_rule.specs.declared.view.Asked.{Asked}
use Rattle.register_rule.specs.declared.view.ScanLog.{ScanLog}
use Rattle.register_rule.specs.declared.view.Member.{Member}
use Rattle.register_rule.specs.Told.{AreRuled}
use Rattle.register_rule.specs.Members.{led, scan_changed}
use Rattle.register_rule.specs.ScanSteps.{begun, noted, after_ask, after_end_ask, is_next, lent_or_passed, asked_of, is_lender}
use Rattle.register_rule.specs.ScanSteps.{answered}
use Rattle.register_rule.specs.ScanSteps.{given_up_if_spent, rest, lent_in}
use Rattle.register_rule.specs.Seats.{HasMember}
use Rattle.snapshot_scan.specs.Shape.{scan_of, with_scan, read_all}
use Rattle.snapshot_scan.specs.Asking.{DoesNotLend, IsBelow, asked_too, refused, refused_all, MayAsk, due_from}
use Rattle.snapshot_scan.proofs.Words.{scan_with, led_some, length_take}

pub three : (f g h : ScanLog → ScanLog) (ms a b d : List Member) → a ≡ led (scan_changed f) ms → b ≡ led (scan_changed g) a
    → d ≡ led (scan_changed h) b → d ≡ with_scan (h (g (f (scan_of ms)))) ms
three f g h ms a b d p q r = r ∙ (ap (led (scan_changed h)) (q ∙ ap (led (scan_changed g)) p) ∙ go ms)
  where
    go : (ms : List Member) → led (scan_changed h) (led (scan_changed g) (led (scan_changed f) ms)) ≡ with_scan
        (h (g (f (scan_of ms)))) ms
    go [] = refl
    go (m ∷ ms) = refl

-- c, which asks this
abbrev asks_now : Look → ScanLog → ScanLog
asks_now l c = record c { trying = record c.trying { looks = []; asks = l ∷ [] } }

noted_here : (w i s k x : ℕ) (ws : List ℕ) → k ≡ w + length ws → noted w i s k x (begun i s ws) ≡ begun i s (ws ++ x ∷ [])
noted_here w i s k x ws e =
    let t : (eqb i i && eqb s s && not false && eqb k (w + length ws)) ≡ true = λ c. eq-eqb i i refl c && eq-eqb s s refl c && not
    false && eq-eqb k _ e c in
    ap (λ (z : Bool). cond z (begun i s (ws ++ x ∷ [])) (begun i s ws)) t

reads_view : (w i s k : ℕ) (ws xs : List ℕ) (c : ScanLog) → k ≡ w + length ws
    → read_all w i s k xs (asks_now (begun i s ws) c) ≡ asks_now (begun i s (ws ++ xs)) c
reads_view w i s k ws [] c e = ap (λ (z : List ℕ). asks_now (begun i s z) c) (sym (append-nil ws))
reads_view w i s k ws (x ∷ xs) c e =
    let long = snoc_long ws x in
    ap (λ (l : Look). read_all w i s (suc k) xs (asks_now l c)) (noted_here w i s k x ws e)
    ∙ (reads_view w i s (suc k) (ws ++ x ∷ []) xs c (omega (arith, e, long))
    ∙ ap (λ (z : List ℕ). asks_now (begun i s z) c) (append_assoc ws (x ∷ []) xs))
  where
    snoc_long : (l : List ℕ) (x : ℕ) → length (l ++ x ∷ []) ≡ suc (length l)
    snoc_long [] x = refl
    snoc_long (y ∷ l) x = ap suc (snoc_long l x)

-- all that asking one worker comes to
pub asks_view : (n w i s again : ℕ) (words more : List ℕ) (c : ScanLog) → c.trying.due ≡ i ∷ more → c.trying.looks ≡ []
    → after_end_ask n w i again (read_all w i s w words (after_ask i s c))
    ≡ cond (is_lender n w again c.trying.floor (begun i s words))
    (answered (lent_in n w words) (asked_too (asked_of again (begun i s words)) c))
    (given_up_if_spent n (record c {
      asked = c.asked ++ asked_of again (begun i s words) ∷ [];
      trying = record c.trying { looks = []; due = rest c.trying.due; asks = [] };
    }))
asks_view n w i s again words more c due looks =
    let t : is_next i c.trying.due ≡ true = ap (is_next i) due ∙ eq-eqb i i refl in
    let opens : after_ask i s c ≡ asks_now (begun i s []) c =
    λ z. record c {
      trying = cond (t z) (record c.trying { looks = looks z; asks = begun i s [] ∷ [] })
          (record c.trying { looks = looks z });
    } in
    let e : w ≡ w + 0 = omega arith in
    ap (λ (d : ScanLog). after_end_ask n w i again (read_all w i s w words d)) opens
    ∙ (ap (after_end_ask n w i again) (reads_view w i s w [] words c e)
    ∙ ap (λ (b : Bool). cond b (lent_or_passed n w again (begun i s words) (asks_now (begun i s words) c))
    (asks_now (begun i s words) c)) (eq-eqb i i refl))

looks_same : (c : ScanLog) (e : Asked) → c.trying.looks ≡ [] → record c {
  asked = c.asked ++ e ∷ [];
  trying = record c.trying { looks = []; due = rest c.trying.due; asks = [] };
} ≡ refused e c
looks_same c e looks = λ z. record c {
  asked = c.asked ++ e ∷ [];
  trying = record c.trying { looks = sym looks z; due = rest c.trying.due; asks = [] };
}

-- the same, where it is told whether the worker lends
asks_so : (n w i s again : ℕ) (words more : List ℕ) (c : ScanLog) (lends : Bool) → c.trying.due ≡ i ∷ more → c.trying.looks ≡ []
    → is_lender n w again c.trying.floor (begun i s words) ≡ lends
    → after_end_ask n w i again (read_all w i s w words (after_ask i s c))
    ≡ cond lends (answered (lent_in n w words) (asked_too (asked_of again (begun i s words)) c))
    (given_up_if_spent n (refused (asked_of again (begun i s words)) c))
asks_so n w i s again words more c lends due looks so =
    let e = asked_of again (begun i s words) in
    asks_view n w i s again words more c due looks
    ∙ (λ z. cond (so z) (answered (lent_in n w words) (asked_too e c)) (given_up_if_spent n (looks_same c e looks z)))

pub view_refuses : (n w i s again : ℕ) (words more : List ℕ) (c : ScanLog) → c.trying.due ≡ i ∷ more → c.trying.looks ≡ []
    → is_lender n w again c.trying.floor (begun i s words) ≡ false
    → after_end_ask n w i again (read_all w i s w words (after_ask i s c)) ≡ given_up_if_spent n
    (refused (asked_of again (begun i s words)) c)
view_refuses n w i s again words more c = asks_so n w i s again words more c false

pub view_lends : (n w i s again : ℕ) (words more : List ℕ) (c : ScanLog) → c.trying.due ≡ i ∷ more → c.trying.looks ≡ []
    → is_lender n w again c.trying.floor (begun i s words) ≡ true
    → after_end_ask n w i again (read_all w i s w words (after_ask i s c)) ≡ answered (lent_in n w words)
    (asked_too (asked_of again (begun i s words)) c)
view_lends n w i s again words more c = asks_so n w i s again words more c true

pub at_end : {A : Type 0} (l : List A) (x : A) → get_elem? (l ++ x ∷ []) (length l) ≡ some x
at_end [] x = refl
at_end (y ∷ l) x = at_end l x

pub given_asked : (n : ℕ) (c : ScanLog) → (given_up_if_spent n c).asked ≡ c.asked
given_asked n c = go (length c.trying.due == 0 && c.trying.failed == n + 2)
  where
    go : (b : Bool) → (cond b
        (record c { quit = c.quit + 1; trying = record { failed = 0; floor = []; base = []; looks = []; due = []; asks = [] } })
        c).asked ≡ c.asked
    go true = refl
    go false = refl

pub flag_low : (n w : ℕ) (adds : List Op → ℕ → ℕ) (accepts : (ℕ → ℕ) → List Op
    → Type 0) (ms : List Member) (c : ScanLog) (e : Asked)
    → HasMember ms → AreRuled n w adds accepts ms → scan_of ms ≡ given_up_if_spent n (refused e c) → e.number ≡ e.again → (x : ℕ)
    → get_elem? e.words 0 ≡ some x → x ≤ 1
flag_low n w adds accepts [] c e t ruled scan same x at = absurd (let h = t.2 in cc)
flag_low n w adds accepts (m ∷ ms) c e t ruled scan same x at =
    let asked : m.scan.asked ≡ c.asked ++ e ∷ [] = ap (λ (d : ScanLog). d.asked) scan ∙ given_asked n (refused e c) in
    let shows = ((ruled.scans 0 m refl).asked (length c.asked) e (ap (λ (l : List Asked). get_elem? l (length c.asked)) asked
    ∙ at_end c.asked e)).shown same 0 x at in
    let flag : x ≡ flag_of (last_lent (take e.number (ruled.made e.worker))) = shows.flag (omega arith) in
    let low = one_or_none (last_lent (take e.number (ruled.made e.worker))) in omega (arith, flag, low)
  where
    one_or_none : (o : Option Answer) → flag_of o ≤ 1
    one_or_none None = omega arith
    one_or_none (Some a) = omega arith

-- the vector is below the floor nowhere
pub above_all : (floor vector : List ℕ) → length floor ≡ length vector
    → ((k : ℕ) → k < length floor → slice_index floor k ≤ slice_index vector k) → is_above floor vector ≡ true
above_all [] vector e h = refl
above_all (x ∷ floor) [] e h = absurd (omega (arith, e))
above_all (x ∷ floor) (y ∷ vector) e h =
    let a : nat_le x y ≡ true = le-leb x y (h 0 (omega arith)) in
    let rest = above_all floor vector (omega (arith, e)) (λ k lt. h (suc k) (omega (arith, lt))) in λ z. a z && rest z

pub not_above : (floor vector : List ℕ) (k : ℕ) → k < length floor → slice_index vector k < slice_index floor k
    → is_above floor vector ≡ false
not_above [] vector k lt h = absurd (omega (arith, lt))
not_above (x ∷ floor) [] k lt h = refl
not_above (x ∷ floor) (y ∷ vector) zero lt h = ap (λ (b : Bool). b && is_above floor vector) (lt-leb x y h)
not_above (x ∷ floor) (y ∷ vector) (suc k) lt h = ap (λ (b : Bool). nat_le x y && b)
    (not_above floor vector k (omega (arith, lt)) h) ∙ and-false (nat_le x y)

pub below_at : (floor vector : List ℕ) → length floor ≡ length vector → is_above floor vector ≡ false → IsBelow floor vector
below_at [] vector e h = absurd (let f : true ≡ false = h in cc)
below_at (x ∷ floor) [] e h = absurd (omega (arith, e))
below_at (x ∷ floor) (y ∷ vector) e h = dite (dec_le x y)
    (λ le. let t = below_at floor vector (omega (arith, e)) (sym (ap (λ (b : Bool). b && is_above floor vector) (le-leb x y le))
    ∙ h) in (suc t.0, t.1, t.2, t.3, t.4, t.5))
    (λ gt. (0, x, y, refl, refl, omega arith))

pub above_below : (floor vector : List ℕ) → is_above floor vector ≡ true → (i x y : ℕ) → get_elem? floor i ≡ some x
    → get_elem? vector i ≡ some y → x ≤ y
above_below [] vector e i x y p q = absurd (some-ne-none x (sym p))
above_below (a ∷ floor) [] e i x y p q = absurd (some-ne-none y (sym q))
above_below (a ∷ floor) (b ∷ vector) e zero x y p q = let l = leb-true a b (and_parts (nat_le a b) (is_above floor vector) e).0 in
    let p' = some-injective a x p in let q' = some-injective b y q in omega (arith, l, p', q')
above_below (a ∷ floor) (b ∷ vector) e (suc i) x y p q =
    above_below floor vector (and_parts (nat_le a b) (is_above floor vector) e).1 i x y p q

pub vector_long : (n w : ℕ) (words : List ℕ) → length words ≡ 1 + n + w → length (take n (drop 1 words)) ≡ n
vector_long n w [] e = absurd (omega (arith, e))
vector_long n w (x ∷ words) e = length_take words n (omega (arith, e))

pub refuses_of : (n w i s again : ℕ) (words more floor : List ℕ) (adds : List Op → ℕ → ℕ) (accepts : (ℕ → ℕ) → List Op → Type 0)
    (ms a b d : List Member) → HasMember ms
    → a ≡ led (scan_changed (after_ask i s)) ms → b ≡ led (scan_changed (read_all w i s w words)) a
    → d ≡ led (scan_changed (after_end_ask n w i again)) b
    → (scan_of ms).trying.due ≡ i ∷ more → (scan_of ms).trying.looks ≡ [] → (scan_of ms).trying.floor ≡ floor → length words
    ≡ 1 + n + w
    → length floor ≡ n → AreRuled n w adds accepts d
    → is_lender n w again floor (begun i s words) ≡ false
    → (e : Asked) × (e.worker ≡ i) × DoesNotLend n floor e × (d ≡ with_scan (given_up_if_spent n (refused e (scan_of ms))) ms)
refuses_of n w i s again words more floor adds accepts ms a b d t p q r due looks is_floor long few ruled not_lent =
    let c : ScanLog = scan_of ms in
    let e : Asked = asked_of again (begun i s words) in
    let shape = view_refuses n w i s again words more c due looks
    (ap (λ (f : List ℕ). is_lender n w again f (begun i s words)) is_floor ∙ not_lent) in
    let view : d ≡ with_scan (given_up_if_spent n (refused e c)) ms = three (after_ask i s) (read_all w i s w words)
    (after_end_ask n w i again) ms a b d p q r ∙ ap (λ (x : ScanLog). with_scan x ms) shape in
    let there : HasMember d = subst HasMember (sym view) (led_some (λ _. given_up_if_spent n (refused e c)) ms t) in
    let scan : scan_of d ≡ given_up_if_spent n (refused e c) = ap scan_of view
    ∙ scan_with (given_up_if_spent n (refused e c)) ms t in
    let vec : length floor ≡ length (take n (drop 1 words)) = few ∙ sym (vector_long n w words long) in (
      e,
      refl,
      dite (ℕ_discrete s again)
          (λ same. let at = flag_at words (omega (arith, long)) in
          let low = flag_low n w adds accepts d c e there ruled scan same (slice_index words 0) at in
          dite (ℕ_discrete (slice_index words 0) 1)
          (λ one. inr (inr (below_at floor (take n (drop 1 words)) vec
          (sym (λ z. eq-eqb s again same z && eq-eqb (length words) (1 + n + w) long z && eq-eqb (slice_index words 0) 1 one z &&
          is_above floor (take n (drop 1 words))) ∙ not_lent))))
          (λ other. inr (inl (at ∙ ap some (let none : slice_index words 0 ≡ 0 = omega (arith, low, other) in none)))))
          (λ other. inl other),
      view,
    )
  where
    flag_at : (l : List ℕ) → 0 < length l → get_elem? l 0 ≡ some (slice_index l 0)
    flag_at [] h = absurd (omega (arith, h))
    flag_at (x ∷ l) h = refl

-- what is left to ask after a worker that does not lend
pub may_next : (n i : ℕ) (e : Asked) (floor more : List ℕ) (c : ScanLog) → MayAsk floor (i ∷ more) c
    → MayAsk floor more (given_up_if_spent n (refused e c))
may_next n i e floor more c may = go (length (rest c.trying.due) == 0 && c.trying.failed == n + 2) refl
  where
    left : rest c.trying.due ≡ more
    left = ap rest may.due

    is_floor : c.trying.floor ≡ floor
    is_floor = may.floor (λ h. let h' = h in cc)

    go : (b : Bool) → (length (rest c.trying.due) == 0 && c.trying.failed == n + 2) ≡ b
        → MayAsk floor more (cond b
        (record (refused e c) {
          quit = c.quit + 1;
          trying = record { failed = 0; floor = []; base = []; looks = []; due = []; asks = [] };
        }) (refused e c))
    go true t = let nil : length (rest c.trying.due) ≡ 0 = eqb-true _ _ (and_parts _ _ t).0 in record {
      due = sym (sym left ∙ empty (rest c.trying.due) nil);
      looks = refl;
      asks = refl;
      floor = λ ne. absurd (ne (sym left ∙ empty (rest c.trying.due) nil));
    }
      where
        empty : (l : List ℕ) → length l ≡ 0 → l ≡ []
        empty [] h = refl
        empty (x ∷ l) h = absurd (omega (arith, h))
    go false t = record { due = left; looks = may.looks; asks = refl; floor = λ _. is_floor }

pub refused_snoc : (n : ℕ) (es : List Asked) (e : Asked) (c : ScanLog) → refused_all n (es ++ e ∷ []) c ≡ given_up_if_spent n
    (refused e (refused_all n es c))
refused_snoc n [] e c = refl
refused_snoc n (x ∷ es) e c = refused_snoc n es e (given_up_if_spent n (refused x c))

-- the workers to be asked, from one place on
pub due_here : (p : ℕ) (base found : List ℕ) → p < length base → p < length found → get_or base p 0 + 2 ≤ get_or found p 0
    → due_from p (drop p base) (drop p found) ≡ p ∷ due_from (p + 1) (drop (p + 1) base) (drop (p + 1) found)
due_here p base found hb hf h = let e : suc p ≡ p + 1 = omega arith in
    (λ z. due_from p (drop-cons base p 0 hb z) (drop-cons found p 0 hf z))
    ∙ (ap (λ (b : Bool). cond b (p ∷ due_from (suc p) (drop (suc p) base) (drop (suc p) found))
    (due_from (suc p) (drop (suc p) base) (drop (suc p) found))) (le-leb _ _ h)
    ∙ ap (λ (k : ℕ). p ∷ due_from k (drop k base) (drop k found)) e)
