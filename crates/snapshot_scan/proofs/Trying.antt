-- A try as a whole, and the tries of a scan.
use Rattle.std.proofs.Common.{◌≡◌, ◌≢◌, ℕ, zero, suc, ◌+◌, ◌<◌, ◌≤◌, Bool, true, false, cond, ◌&&◌, ◌==◌, nat_le, List, [], ◌∷◌}
use Rattle.std.proofs.Common.{◌++◌, length, map, slice_index, sym, refl, ap, ◌∙◌, arith, eq-eqb, ne_eqb, append_assoc}
use Rattle.std.proofs.lemmas.List.{append-nil}
use mathlib.Core.Option.{some, some-injective, some-ne-none}
use mathlib.Core.Logic.{dite}
use native.Mathlib.Decide.{dec_lt}
use lib.ListN.{get_elem?}
use Rattle.std.proofs.Math.Bool.{and-false}
use Rattle.std.proofs.lemmas.Bool.{and_parts, eqb-true, lt-leb}
use Rattle.register_rule.specs.declared.view.Look.{Look}
use Rattle.register_rule.specs.declared.view.Answer.{Answer}
use Rattle.register_rule.specs.declared.view.Version.{Version}
use Rattle.register_rule.specs.declared.view.Asked.{Asked}
use Rattle.register_rule.specs.declared.view.ScanInProgress.{ScanInProgress}
use Rattle.register_rule.specs.declared.view.ScanLog.{ScanLog}
use Rattle.register_rule.specs.History.{tab}
use Rattle.register_rule.specs.SoundScans.{opened_at}
use Rattle.register_rule.specs.ScanSteps.{every, begun, confirmed_look, clean, are_clean}
use Rattle.register_rule.specs.ScanSteps.{sum_words, answer_of_try, found_of, due_of}
use Rattle.register_rule.specs.ScanSteps.{with_base, failed_once_more, answered, given_up_if_spent, ended, at_rest}
use Rattle.snapshot_scan.specs.declared.remembered_row.RememberedRow.{RememberedRow}
use Rattle.snapshot_scan.specs.RememberedRows.{version_of, AreWide, AreTotals, words_of, looks_of, pairs, opening, settling}
use Rattle.snapshot_scan.specs.RememberedRows.{sum_rows}
use Rattle.snapshot_scan.specs.Asking.{refused, refused_all, due_from, asked_worker}
use Rattle.snapshot_scan.specs.Scanned.{Tried, all_opened, all_confirmed, all_before, all_asked, FailedTry}
use Rattle.snapshot_scan.proofs.Opening.{looks_long}
use Rattle.snapshot_scan.proofs.Settling.{settled_here, words_wide}

clean_here : (w q s f : ℕ) (ws : List ℕ) → length ws ≡ w → clean w (confirmed_look q f (begun q s ws)) ≡ (s == f)
clean_here w q s f ws long = ap (clean w) (settled_here q f s ws)
    ∙ (ap (λ (b : Bool). (s == f) && b) (eq-eqb (length ws) w long) ∙ and_true (s == f))
  where
    and_true : (b : Bool) → (b && true) ≡ b
    and_true true = refl
    and_true false = refl

pub clean_all : (w q : ℕ) (opened : List ℕ) (gs : List RememberedRow) → AreWide w gs → length opened ≤ length gs
    → every (clean w) (looks_of q opened opened gs) ≡ true
clean_all w q [] gs wide h = refl
clean_all w q (s ∷ opened) [] wide h = absurd (omega (arith, h))
clean_all w q (s ∷ opened) (g ∷ gs) wide h =
    let a = clean_here w q s s (words_of s g) (words_wide w s g (wide 0 g refl)) ∙ eq-eqb s s refl in
    let others = clean_all w (suc q) opened gs (λ p x e. wide (suc p) x e) (omega (arith, h)) in λ z. a z && others z

pub clean_same : (w q : ℕ) (opened found : List ℕ) (gs : List RememberedRow) → AreWide w gs → length opened ≡ length gs
    → length found ≡ length gs → every (clean w) (looks_of q opened found gs) ≡ true → opened ≡ found
clean_same w q [] [] gs wide h k t = refl
clean_same w q [] (f ∷ found) gs wide h k t = absurd (omega (arith, h, k))
clean_same w q (s ∷ opened) [] gs wide h k t = absurd (omega (arith, h, k))
clean_same w q (s ∷ opened) (f ∷ found) [] wide h k t = absurd (omega (arith, h))
clean_same w q (s ∷ opened) (f ∷ found) (g ∷ gs) wide h k t =
    let b = and_parts (clean w (confirmed_look q f (begun q s (words_of s g))))
    (every (clean w) (looks_of (suc q) opened found gs)) t in
    let same : s ≡ f = eqb-true s f (sym (clean_here w q s f (words_of s g) (words_wide w s g (wide 0 g refl))) ∙ b.0) in
    let others = clean_same w (suc q) opened found gs (λ p x e. wide (suc p) x e) (omega (arith, h)) (omega (arith, k)) b.1 in
    λ z. same z ∷ others z

pub numbers_are : (q : ℕ) (opened found : List ℕ) (gs : List RememberedRow) → length opened ≤ length gs
    → map opened_at (looks_of q opened found gs) ≡ opened
numbers_are q [] found gs h = refl
numbers_are q (s ∷ opened) found [] h = absurd (omega (arith, h))
numbers_are q (s ∷ opened) [] (g ∷ gs) h = ap (λ z. s ∷ z) (numbers_are (suc q) opened [] gs (omega (arith, h)))
numbers_are q (s ∷ opened) (f ∷ found) (g ∷ gs) h = let a = ap opened_at (settled_here q f s (words_of s g)) in
    let others = numbers_are (suc q) opened found gs (omega (arith, h)) in λ z. a z ∷ others z

pub founds_are : (q : ℕ) (opened found : List ℕ) (gs : List RememberedRow) → length opened ≡ length gs → length found ≡ length gs
    → map found_of (looks_of q opened found gs) ≡ found
founds_are q [] [] gs h k = refl
founds_are q [] (f ∷ found) gs h k = absurd (omega (arith, h, k))
founds_are q (s ∷ opened) [] gs h k = absurd (omega (arith, h, k))
founds_are q (s ∷ opened) (f ∷ found) [] h k = absurd (omega (arith, h))
founds_are q (s ∷ opened) (f ∷ found) (g ∷ gs) h k = let a = ap found_of (settled_here q f s (words_of s g)) in
    let others = founds_are (suc q) opened found gs (omega (arith, h)) (omega (arith, k)) in λ z. a z ∷ others z

pub dues_are : (q : ℕ) (base opened found : List ℕ) (gs : List RememberedRow) → length opened ≡ length gs
    → length found ≡ length gs → due_of base (looks_of q opened found gs) ≡ due_from q base found
dues_are q [] opened found gs h k = refl
dues_are q (x ∷ base) [] [] gs h k = refl
dues_are q (x ∷ base) [] (f ∷ found) gs h k = absurd (omega (arith, h, k))
dues_are q (x ∷ base) (s ∷ opened) [] gs h k = absurd (omega (arith, h, k))
dues_are q (x ∷ base) (s ∷ opened) (f ∷ found) [] h k = absurd (omega (arith, h))
dues_are q (x ∷ base) (s ∷ opened) (f ∷ found) (g ∷ gs) h k =
    let a = settled_here q f s (words_of s g) in
    let others = dues_are (suc q) base opened found gs (omega (arith, h)) (omega (arith, k)) in
    λ z. cond (nat_le (x + 2) (a z).found) ((a z).place ∷ others z) (others z)

pub sums_are : (k q : ℕ) (opened found : List ℕ) (gs : List RememberedRow) → length opened ≡ length gs → length found ≡ length gs
    → ((p : ℕ) (g : RememberedRow) → get_elem? gs p ≡ some g → g.number ≡ slice_index opened p)
    → sum_words k (looks_of q opened found gs) ≡ sum_rows k gs
sums_are k q [] [] [] h e held = refl
sums_are k q [] [] (g ∷ gs) h e held = absurd (omega (arith, h))
sums_are k q [] (f ∷ found) gs h e held = absurd (omega (arith, h, e))
sums_are k q (s ∷ opened) [] gs h e held = absurd (omega (arith, h, e))
sums_are k q (s ∷ opened) (f ∷ found) [] h e held = absurd (omega (arith, h))
sums_are k q (s ∷ opened) (f ∷ found) (g ∷ gs) h e held =
    let a = ap (λ (l : Look). slice_index l.words k) (settled_here q f s (words_of s g))
    ∙ ap (λ (b : Bool). slice_index (cond b g.row.items g.fresh.items) k) (eq-eqb g.number s (held 0 g refl)) in
    let others = sums_are k (suc q) opened found gs (omega (arith, h)) (omega (arith, e)) (λ p x at. held (suc p) x at) in
    λ z. a z + others z

tab_is : (i w : ℕ) (f : ℕ → ℕ) (l : List ℕ) → length l ≡ w → ((k : ℕ) → k < w → f (i + k) ≡ slice_index l k) → tab i w f ≡ l
tab_is i zero f [] e h = refl
tab_is i zero f (x ∷ l) e h = absurd (omega (arith, e))
tab_is i (suc w) f [] e h = absurd (omega (arith, e))
tab_is i (suc w) f (x ∷ l) e h =
    let z : i + 0 ≡ i = omega arith in let a : f i ≡ x = ap f (sym z) ∙ h 0 (omega arith) in
    let others = tab_is (suc i) w f l (omega (arith, e)) (λ k lt. let m : suc i + k ≡ i + suc k = omega arith in
    ap f m ∙ h (suc k) (omega (arith, lt))) in λ t. a t ∷ others t

-- what the second collect ends with
module _ (n w : ℕ) (opened found : List ℕ) (gs : List RememberedRow) (c : ScanLog) (few : length gs ≡ n)
    (long : length opened ≡ n)
    (deep : length found ≡ n) (wide : AreWide w gs) where
  abbrev end : ScanLog
  end = settling opened found gs c

  looks_all : (length (looks_of 0 opened found gs) == n) ≡ true
  looks_all = eq-eqb _ n (looks_long 0 opened found gs (omega (arith, few, long)) ∙ long)

  pub ends_clean : (totals : List ℕ) → length totals ≡ w → opened ≡ found
      → ((p : ℕ) (g : RememberedRow) → get_elem? gs p ≡ some g → g.number ≡ slice_index opened p) → AreTotals w gs totals
      → ended n w (settling opened found gs c) ≡ answered (record { vector = opened; totals = totals })
      (settling opened found gs c)
  ends_clean totals sized same held sums =
      let all : are_clean n w (looks_of 0 opened found gs) ≡ true =
      λ z. looks_all z && (ap (λ (f : List ℕ). every (clean w) (looks_of 0 opened f gs)) (sym same)
      ∙ clean_all w 0 opened gs wide (omega (arith, few, long))) z in
      let answer : answer_of_try w (looks_of 0 opened found gs) ≡ record { vector = opened; totals = totals } =
      (λ z. record {
        vector = numbers_are 0 opened found gs (omega (arith, few, long)) z;
        totals = tab_is 0 w (λ k. sum_words k (looks_of 0 opened found gs)) totals sized
            (λ k lt. let e : 0 + k ≡ k = omega arith in ap (λ (j : ℕ). sum_words j (looks_of 0 opened found gs)) e
            ∙ (sums_are k 0 opened found gs (long ∙ sym few) (deep ∙ sym few) held ∙ sym (sums k lt))) z;
      }) in
      ap (λ (b : Bool). cond b (answered (answer_of_try w (looks_of 0 opened found gs)) end)
      (given_up_if_spent n (record end { trying = failed_once_more (with_base end.trying) }))) all
      ∙ ap (λ (a : Answer). answered a end) answer

  pub ends_failed : opened ≢ found → ended n w (settling opened found gs c) ≡ given_up_if_spent n
      (record (settling opened found gs c) { trying = failed_once_more (with_base (settling opened found gs c).trying) })
  ends_failed differ = go (are_clean n w (looks_of 0 opened found gs)) refl
    where
      go : (b : Bool) → are_clean n w (looks_of 0 opened found gs) ≡ b
          → cond b (answered (answer_of_try w (looks_of 0 opened found gs)) end)
          (given_up_if_spent n (record end { trying = failed_once_more (with_base end.trying) })) ≡ given_up_if_spent n
          (record end { trying = failed_once_more (with_base end.trying) })
      go true t = absurd (differ (clean_same w 0 opened found gs wide (long ∙ sym few) (deep ∙ sym few) (and_parts _ _ t).1))
      go false t = refl

-- after these tries, none of which ended the scan
abbrev pub stood : List Tried → List RememberedRow → (floor base : List ℕ) → ScanLog → ScanLog
stood tries gs floor base c = record c {
  opened = c.opened ++ all_opened tries;
  confirmed = c.confirmed ++ all_confirmed tries;
  before = c.before ++ all_before c.opened tries;
  asked = c.asked ++ all_asked tries;
  remembered = map version_of gs;
  trying = record { failed = length tries; floor = floor; base = base; looks = []; due = []; asks = [] };
}

-- tries that failed; `first` and `last` are the numbers of the last one
pub record AreTries (n : ℕ) (floor base first last : List ℕ) (tries : List Tried) : Type 0 where
  pub head : Tried
  pub others : List Tried
  pub all : tries ≡ head ∷ others
  pub is_floor : head.first ≡ floor
  pub is_base : head.second ≡ base
  pub each : (q : ℕ) (t : Tried) → get_elem? tries q ≡ some t → FailedTry n floor base t
  pub ends : (before : List Tried) × (final : Tried) × (tries ≡ before ++ final ∷ []) × (final.first ≡ first)
      × (final.second ≡ last)

-- a scan is not given up while somebody is to be asked, or before its last try
given_not : (n : ℕ) (c : ScanLog) → (length c.trying.due == 0 && c.trying.failed == n + 2) ≡ false → given_up_if_spent n c ≡ c
given_not n c t = ap (λ (b : Bool). cond b (record c { quit = c.quit + 1; trying = at_rest }) c) t

pub given_due : (n : ℕ) (c : ScanLog) (i : ℕ) (more : List ℕ) → c.trying.due ≡ i ∷ more → given_up_if_spent n c ≡ c
given_due n c i more e =
    given_not n c (λ z. (ap (λ (l : List ℕ). length l == 0) e ∙ ne_eqb (suc (length more)) 0 (λ h. omega (arith, h))) z &&
    c.trying.failed == n + 2)

pub given_later : (n : ℕ) (c : ScanLog) → c.trying.failed < n + 2 → given_up_if_spent n c ≡ c
given_later n c lt = given_not n c ((λ z. length c.trying.due == 0 && ne_eqb c.trying.failed (n + 2)
    (λ h. omega (arith, h, lt)) z)
    ∙ and-false (length c.trying.due == 0))

pub given_last : (n : ℕ) (c : ScanLog) → c.trying.due ≡ [] → c.trying.failed ≡ n + 2 → given_up_if_spent n c ≡ record c {
  quit = c.quit + 1;
  trying = at_rest;
}
given_last n c due last = ap (λ (b : Bool). cond b (record c { quit = c.quit + 1; trying = at_rest }) c)
    (λ z. (ap (λ (l : List ℕ). length l == 0) due ∙ eq-eqb 0 0 refl) z && eq-eqb c.trying.failed (n + 2) last z)

-- the loads of a try in which these were asked, and those are still to be asked
abbrev pub asking : (opened found : List ℕ) → List RememberedRow → (floor base : List ℕ) → (es : List Asked) → (workers : List ℕ)
    → ScanLog → ScanLog
asking opened found gs floor base es workers d = record d {
  opened = d.opened ++ pairs 0 opened;
  confirmed = d.confirmed ++ pairs 0 found;
  before = d.before ++ map (λ _. length (d.opened ++ pairs 0 opened)) found;
  asked = d.asked ++ es;
  remembered = map version_of gs;
  trying = record { failed = d.trying.failed + 1; floor = floor; base = base; looks = []; due = workers; asks = [] };
}

pub none_due : (q : ℕ) (xs : List ℕ) → due_from q xs xs ≡ []
none_due q [] = refl
none_due q (x ∷ xs) = ap (λ (b : Bool). cond b (q ∷ due_from (suc q) xs xs) (due_from (suc q) xs xs))
    (lt-leb (x + 2) x (omega arith)) ∙ none_due (suc q) xs

module _ (n w : ℕ) (opened found : List ℕ) (gs gs' : List RememberedRow) (few : length gs ≡ n) (long : length opened ≡ n)
    (deep : length found ≡ n) where
  -- a later try that failed
  pub fails_later : (d : ScanLog) → (d.trying.failed == 0) ≡ false → d.trying.asks ≡ []
      → record (settling opened found gs (opening opened gs' d))
      { trying = failed_once_more (with_base (settling opened found gs (opening opened gs' d)).trying) }
      ≡ asking opened found gs d.trying.floor d.trying.base [] (due_from 0 d.trying.base found) d
  fails_later d later none =
      let ls = looks_of 0 opened found gs in
      let t : ScanInProgress = record d.trying { looks = ls } in
      let b : with_base t ≡ t =
      ap (λ (h : Bool). cond h (record t { floor = map opened_at t.looks; base = map found_of t.looks }) t) later in
      let due : due_of d.trying.base ls ≡ due_from 0 d.trying.base found = dues_are 0 d.trying.base opened found gs
      (long ∙ sym few)
      (deep ∙ sym few) in
      ap (λ (u : ScanInProgress). record (settling opened found gs (opening opened gs' d)) { trying = failed_once_more u }) b
      ∙ (λ z. record d {
        opened = d.opened ++ pairs 0 opened;
        confirmed = d.confirmed ++ pairs 0 found;
        before = d.before ++ map (λ _. length (d.opened ++ pairs 0 opened)) found;
        asked = sym (append-nil d.asked) z;
        remembered = map version_of gs;
        trying = record {
          failed = d.trying.failed + 1;
          floor = d.trying.floor;
          base = d.trying.base;
          looks = [];
          due = due z;
          asks = none z;
        };
      })

  -- the first try that failed
  pub fails_first : (d : ScanLog) → d.trying ≡ at_rest
      → record (settling opened found gs (opening opened gs' d))
      { trying = failed_once_more (with_base (settling opened found gs (opening opened gs' d)).trying) }
      ≡ asking opened found gs opened found [] [] d
  fails_first d none =
      let ls = looks_of 0 opened found gs in
      let due : due_of (map found_of ls) ls ≡ [] = ap (λ (l : List ℕ). due_of l ls)
      (founds_are 0 opened found gs (long ∙ sym few) (deep ∙ sym few))
      ∙ (dues_are 0 found opened found gs (long ∙ sym few) (deep ∙ sym few) ∙ none_due 0 found) in
      (λ z. record (settling opened found gs (opening opened gs' d))
      { trying = failed_once_more (with_base (record (none z) { looks = ls })) })
      ∙ (λ z. record d {
        opened = d.opened ++ pairs 0 opened;
        confirmed = d.confirmed ++ pairs 0 found;
        before = d.before ++ map (λ _. length (d.opened ++ pairs 0 opened)) found;
        asked = sym (append-nil d.asked) z;
        remembered = map version_of gs;
        trying = record {
          failed = ap (λ (u : ScanInProgress). u.failed + 1) (sym none) z;
          floor = numbers_are 0 opened found gs (omega (arith, few, long)) z;
          base = founds_are 0 opened found gs (long ∙ sym few) (deep ∙ sym few) z;
          looks = [];
          due = due z;
          asks = [];
        };
      })

  -- nobody lends
  pub asked_none : (floor base : List ℕ) (es before : List Asked) (d : ScanLog)
      → refused_all n es (given_up_if_spent n (asking opened found gs floor base before
      (map asked_worker es) d)) ≡ given_up_if_spent n
      (asking opened found gs floor base (before ++ es) [] d)
  asked_none floor base [] before d = ap (λ (l : List Asked). given_up_if_spent n (asking opened found gs floor base l [] d))
      (sym (append-nil before))
  asked_none floor base (e ∷ es) before d =
      ap (λ (x : ScanLog). refused_all n es (given_up_if_spent n (refused e x)))
      (given_due n (asking opened found gs floor base before (map asked_worker (e ∷ es)) d) (asked_worker e)
      (map asked_worker es) refl)
      ∙ (ap (λ (l : List Asked). refused_all n es
      (given_up_if_spent n (record (asking opened found gs floor base before (map asked_worker es) d) { asked = l })))
      (append_assoc d.asked before (e ∷ []))
      ∙ (asked_none floor base es (before ++ e ∷ []) d
      ∙ ap (λ (l : List Asked). given_up_if_spent n (asking opened found gs floor base l [] d)) (append_assoc before
      (e ∷ []) es)))

  -- the next one lends
  pub asked_some : (floor base more : List ℕ) (i : ℕ) (es before : List Asked) (d : ScanLog)
      → refused_all n es (given_up_if_spent n (asking opened found gs floor base before
      (map asked_worker es ++ i ∷ more) d)) ≡ asking
      opened found gs floor base (before ++ es) (i ∷ more) d
  asked_some floor base more i [] before d = given_due n (asking opened found gs floor base before (i ∷ more) d) i more refl
      ∙ ap (λ (l : List Asked). asking opened found gs floor base l (i ∷ more) d) (sym (append-nil before))
  asked_some floor base more i (e ∷ es) before d =
      ap (λ (x : ScanLog). refused_all n es (given_up_if_spent n (refused e x)))
      (given_due n (asking opened found gs floor base before (map asked_worker (e ∷ es) ++ i ∷ more) d) (asked_worker e)
      (map asked_worker es ++ i ∷ more) refl)
      ∙ (ap (λ (l : List Asked). refused_all n es
      (given_up_if_spent n (record (asking opened found gs floor base before (map asked_worker es ++ i ∷ more) d) { asked = l })))
      (append_assoc d.asked before (e ∷ []))
      ∙ (asked_some floor base more i es (before ++ e ∷ []) d
      ∙ ap (λ (l : List Asked). asking opened found gs floor base l (i ∷ more) d) (append_assoc before (e ∷ []) es)))

pub opened_snoc : (ts : List Tried) (t : Tried) → all_opened (ts ++ t ∷ []) ≡ all_opened ts ++ pairs 0 t.first
opened_snoc [] t = append-nil (pairs 0 t.first)
opened_snoc (x ∷ ts) t = ap (λ z. pairs 0 x.first ++ z) (opened_snoc ts t)
    ∙ sym (append_assoc (pairs 0 x.first) (all_opened ts) (pairs 0 t.first))

pub confirmed_snoc : (ts : List Tried) (t : Tried) → all_confirmed (ts ++ t ∷ []) ≡ all_confirmed ts ++ pairs 0 t.second
confirmed_snoc [] t = append-nil (pairs 0 t.second)
confirmed_snoc (x ∷ ts) t = ap (λ z. pairs 0 x.second ++ z) (confirmed_snoc ts t)
    ∙ sym (append_assoc (pairs 0 x.second) (all_confirmed ts) (pairs 0 t.second))

pub before_snoc : (o : List (ℕ × ℕ)) (ts : List Tried) (t : Tried) → all_before o (ts ++ t ∷ []) ≡ all_before o ts ++ map
    (λ _. length ((o ++ all_opened ts) ++ pairs 0 t.first)) t.second
before_snoc o [] t = append-nil (map (λ _. length (o ++ pairs 0 t.first)) t.second)
    ∙ ap (λ (z : List (ℕ × ℕ)). map (λ _. length (z ++ pairs 0 t.first)) t.second) (sym (append-nil o))
before_snoc o (x ∷ ts) t =
    let here : List ℕ = map (λ _. length (o ++ pairs 0 x.first)) x.second in
    let later : List ℕ = all_before (o ++ pairs 0 x.first) ts in
    ap (λ z. here ++ z) (before_snoc (o ++ pairs 0 x.first) ts t
    ∙ ap (λ (z : List (ℕ × ℕ)). later ++ map (λ _. length (z ++ pairs 0 t.first)) t.second)
    (append_assoc o (pairs 0 x.first) (all_opened ts)))
    ∙ sym (append_assoc here later (map (λ _. length ((o ++ (pairs 0 x.first ++ all_opened ts)) ++ pairs 0 t.first)) t.second))

pub asked_snoc : (ts : List Tried) (t : Tried) → all_asked (ts ++ t ∷ []) ≡ all_asked ts ++ t.asks
asked_snoc [] t = append-nil t.asks
asked_snoc (x ∷ ts) t = ap (λ z. x.asks ++ z) (asked_snoc ts t) ∙ sym (append_assoc x.asks (all_asked ts) t.asks)

pub count_snoc : (ts : List Tried) (t : Tried) → length (ts ++ t ∷ []) ≡ length ts + 1
count_snoc [] t = refl
count_snoc (x ∷ ts) t = let h = count_snoc ts t in omega (arith, h)

-- one more try has failed
pub stood_more : (tries : List Tried) (gs0 gs : List RememberedRow) (floor0 base0 floor base opened found : List ℕ)
    (es : List Asked) (c : ScanLog)
    → asking opened found gs floor base es [] (stood tries gs0 floor0 base0 c) ≡ stood
    (tries ++ record { first = opened; second = found; asks = es } ∷ []) gs floor base c
stood_more tries gs0 gs floor0 base0 floor base opened found es c =
    let t : Tried = record { first = opened; second = found; asks = es } in
    let a : (c.opened ++ all_opened tries) ++ pairs 0 opened ≡ c.opened ++ all_opened (tries ++ t ∷ []) =
    append_assoc c.opened (all_opened tries) (pairs 0 opened) ∙ ap (λ z. c.opened ++ z) (sym (opened_snoc tries t)) in
    let b : (c.confirmed ++ all_confirmed tries) ++ pairs 0 found ≡ c.confirmed ++ all_confirmed (tries ++ t ∷ []) =
    append_assoc c.confirmed (all_confirmed tries) (pairs 0 found)
    ∙ ap (λ z. c.confirmed ++ z) (sym (confirmed_snoc tries t)) in
    let m : (c.before ++ all_before c.opened tries) ++ map (λ _. length ((c.opened ++ all_opened tries) ++ pairs 0 opened))
    found ≡ c.before ++ all_before c.opened (tries ++ t ∷ []) =
    append_assoc c.before (all_before c.opened tries) (map (λ _. length ((c.opened ++ all_opened tries) ++ pairs 0 opened)) found)
    ∙ ap (λ z. c.before ++ z) (sym (before_snoc c.opened tries t)) in
    let e : (c.asked ++ all_asked tries) ++ es ≡ c.asked ++ all_asked (tries ++ t ∷ []) =
    append_assoc c.asked (all_asked tries) es ∙ ap (λ z. c.asked ++ z) (sym (asked_snoc tries t)) in
    let k : length tries + 1 ≡ length (tries ++ t ∷ []) = sym (count_snoc tries t) in
    λ z. record c {
      opened = a z;
      confirmed = b z;
      before = m z;
      asked = e z;
      remembered = map version_of gs;
      trying = record { failed = k z; floor = floor; base = base; looks = []; due = []; asks = [] };
    }

-- where two lists of numbers differ and the second is at no place below the first, it is above it somewhere
pub rose_some : (opened found : List ℕ) → length opened ≡ length found
    → ((q : ℕ) → q < length opened → slice_index opened q ≤ slice_index found q) → opened ≢ found → (q : ℕ) × (q < length opened)
    × (slice_index opened q < slice_index found q)
rose_some [] [] e le ne = absurd (ne refl)
rose_some [] (y ∷ found) e le ne = absurd (omega (arith, e))
rose_some (x ∷ opened) [] e le ne = absurd (omega (arith, e))
rose_some (x ∷ opened) (y ∷ found) e le ne = dite (dec_lt x y)
    (λ lt. (0, omega arith, lt))
    (λ ge. let same : x ≡ y = (let h = le 0 (omega arith) in omega (arith, ge, h)) in
    let t = rose_some opened found (omega (arith, e)) (λ q lt. le (suc q) (omega (arith, lt))) (λ z. ne (λ i. same i ∷ z i)) in
    (suc t.0, omega (arith, t.1), t.2))

pub true_not_false : true ≡ false → ⊥
true_not_false e = cc

at_pairs : (p : ℕ) (xs : List ℕ) (q x : ℕ) → get_elem? xs q ≡ some x → get_elem? (pairs p xs) q ≡ some (p + q, x)
at_pairs p [] q x e = absurd (some-ne-none x (sym e))
at_pairs p (y ∷ xs) zero x e = let z : p ≡ p + 0 = omega arith in λ i. some (z i, some-injective y x e i)
at_pairs p (y ∷ xs) (suc q) x e = let z : suc p + q ≡ p + suc q = omega arith in
    at_pairs (suc p) xs q x e ∙ ap (λ (k : ℕ). some (k, x)) z

at_after : {A : Type 0} (xs ys : List A) (q : ℕ) → get_elem? (xs ++ ys) (length xs + q) ≡ get_elem? ys q
at_after [] ys q = let e : 0 + q ≡ q = omega arith in ap (get_elem? ys) e
at_after (x ∷ xs) ys q = let e : suc (length xs) + q ≡ suc (length xs + q) = omega arith in
    ap (get_elem? (x ∷ (xs ++ ys))) e ∙ at_after xs ys q

front_at : {A : Type 0} (xs ys : List A) (q : ℕ) (y : A) → get_elem? xs q ≡ some y → get_elem? (xs ++ ys) q ≡ some y
front_at [] ys q y e = absurd (some-ne-none y (sym e))
front_at (x ∷ xs) ys zero y e = e
front_at (x ∷ xs) ys (suc q) y e = front_at xs ys q y e

-- where the loads of a collect stand
pub loads_in : (before : List (ℕ × ℕ)) (xs : List ℕ) (later : List (ℕ × ℕ)) (q x : ℕ) → get_elem? xs q ≡ some x
    → get_elem? (before ++ (pairs 0 xs ++ later)) (length before + q) ≡ some (q, x)
loads_in before xs later q x e = let z : 0 + q ≡ q = omega arith in at_after before (pairs 0 xs ++ later) q
    ∙ (front_at (pairs 0 xs) later q (0 + q, x) (at_pairs 0 xs q x e) ∙ ap (λ (k : ℕ). some (k, x)) z)

pub loads_at : (before : List (ℕ × ℕ)) (xs : List ℕ) (later : List (ℕ × ℕ)) (q x : ℕ) → get_elem? xs q ≡ some x
    → get_elem? (before ++ pairs 0 xs) (length before + q) ≡ some (q, x)
loads_at before xs later q x e = ap (λ (l : List (ℕ × ℕ)). get_elem? (before ++ l) (length before + q))
    (sym (append-nil (pairs 0 xs))) ∙ loads_in before xs [] q x e

abbrev sums_by : (k : ℕ) → List Version → ℕ
sums_by k [] = 0
sums_by k (v ∷ vs) = slice_index v.row k + sums_by k vs

pub sums_same : (k : ℕ) (gs hs : List RememberedRow) → map version_of gs ≡ map version_of hs → sum_rows k gs ≡ sum_rows k hs
sums_same k gs hs e = go gs ∙ (ap (sums_by k) e ∙ sym (go hs))
  where
    go : (gs : List RememberedRow) → sum_rows k gs ≡ sums_by k (map version_of gs)
    go [] = refl
    go (g ∷ gs) = ap (λ z. slice_index g.row.items k + z) (go gs)
