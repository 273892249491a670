-- The tries of a scan, and its ends.
use Rattle.std.proofs.Common.{◌≡◌, ◌≢◌, inl, inr, ℕ, zero, suc, ◌+◌, ◌<◌, Bool, true, false, cond, ◌==◌, List, [], ◌∷◌, ◌++◌}
use Rattle.std.proofs.Common.{length, map, get_or, slice_index, sym, refl, ap, ◌∙◌, subst, arith, ne_eqb, append_assoc}
use Rattle.std.proofs.lemmas.Bool.{true≢false}
use Rattle.std.proofs.lemmas.List.{append-nil}
use mathlib.Core.Option.{some, some-injective, some-ne-none}
use lib.ListN.{get_elem?}
use Rattle.ledger_core.specs.Vectors.{is_above}
use Rattle.register_rule.specs.declared.view.Answer.{Answer}
use Rattle.register_rule.specs.declared.view.Asked.{Asked}
use Rattle.register_rule.specs.declared.view.Member.{Member}
use Rattle.register_rule.specs.declared.view.ScanLog.{ScanLog}
use Rattle.register_rule.specs.declared.view.Version.{Version}
use Rattle.register_rule.specs.History.{Below}
use Rattle.register_rule.specs.ScanSteps.{answered, given_up_if_spent, at_rest}
use Rattle.register_rule.proofs.Words.{there, at_below, read_at, each_push}
use Rattle.snapshot_scan.specs.declared.remembered_row.RememberedRow.{RememberedRow}
use Rattle.register_rule.specs.declared.board.Board.{Board}
use Rattle.register_rule.specs.declared.seats.Bundle.{Bundle}
use Rattle.register_rule.specs.Seats.{HasMember, MayScan, table_of, members_of}
use Rattle.ledger_core.specs.Ops.{width}
use Rattle.segment_layout.specs.Layout.{IsGeometry}
use Rattle.snapshot_scan.specs.ChangedItems.{ChangedView}
use Rattle.snapshot_scan.specs.declared.try_end.TryEnd.{TryEnd}
use Rattle.snapshot_scan.specs.declared.try_end.TryEnd.TheVariants.{Quiet, Clean, Failed}
use Rattle.snapshot_scan.specs.TryEnds.{is_clean}
use Rattle.snapshot_scan.specs.Conditions.{MayTry, HasTried, HasFailedOnce}
use Rattle.snapshot_scan.specs.Shape.{scan_of, with_scan}
use Rattle.snapshot_scan.specs.RememberedRows.{version_of, AreWide, HasOther, pairs, opening, settling, failing, IsLoaded}
use Rattle.snapshot_scan.specs.Asking.{refused_all, due_from, asked_worker, asked_too, MayAsk}
use Rattle.snapshot_scan.specs.Scanned.{Tried, all_opened, FailedTry, HasMoved, IsIdle, IsAnswered, IsGivenUp}
use Rattle.snapshot_scan.proofs.Words.{scan_with, with_led, led_some}
use Rattle.snapshot_scan.proofs.Asking.{above_below}
use Rattle.snapshot_scan.proofs.Moving.{lists_first}
use Rattle.snapshot_scan.proofs.Trying.{stood, stood_more, AreTries, asking, fails_later, fails_first, asked_none, asked_some}
use Rattle.snapshot_scan.proofs.Trying.{given_due, given_later, given_last, loads_in}

-- what the first member's scan is now
pub now_is : (c : ScanLog) (ms ms' : List Member) → HasMember ms → ms' ≡ with_scan c ms → scan_of ms' ≡ c
now_is c ms ms' t e = ap scan_of e ∙ scan_with c ms t

pub still_some : (c : ScanLog) (ms ms' : List Member) → HasMember ms → ms' ≡ with_scan c ms → HasMember ms'
still_some c ms ms' t e = subst HasMember (sym e) (led_some (λ _. c) ms t)

pub others_same : (c : ScanLog) (ms ms' : List Member) → HasMember ms → ms' ≡ with_scan c ms → ms' ≡ with_scan (scan_of ms') ms
others_same c ms ms' t e = e ∙ ap (λ (d : ScanLog). with_scan d ms) (sym (now_is c ms ms' t e))

-- two steps, one after the other
pub then_is : (f : ScanLog → ScanLog) (d : ScanLog) (ms a b : List Member) → HasMember ms → a ≡ with_scan d ms
    → b ≡ with_scan (f (scan_of a)) a → b ≡ with_scan (f d) ms
then_is f d ms a b t p q = q
    ∙ (ap (λ (x : ScanLog). with_scan (f x) a) (now_is d ms a t p) ∙ (ap (with_scan (f d)) p ∙ with_led (λ _. f d) d ms))

above_self : (l : List ℕ) → Below l l
above_self l i x y p q = let e = some-injective x y (sym p ∙ q) in omega (arith, e)

-- the numbers of a collect are not below what was loaded or seen before
pub seen_below : (n : ℕ) (c : ScanLog) (opened : List ℕ) → length opened ≡ n
    → ((q : ℕ) → q < n → IsLoaded q c (slice_index opened q)) → Below c.seen opened
seen_below n c opened long told i x y p q = let lt = at_below opened i y q in
    let h = (told i (omega (arith, long, lt))).seen x p in let e = read_at opened i y 0 q in omega (arith, h, e)

floor_below : (n : ℕ) (c d : ScanLog) (floor opened : List ℕ) (later : List (ℕ × ℕ)) → length opened ≡ n
    → ((q : ℕ) → q < n → IsLoaded q d (slice_index opened q)) → d.opened ≡ c.opened ++ (pairs 0 floor ++ later)
    → Below floor opened
floor_below n c d floor opened later long told e i x y p q =
    let lt = at_below opened i y q in
    let h = (told i (omega (arith, long, lt))).opened (length c.opened + i) x
    (ap (λ (l : List (ℕ × ℕ)). get_elem? l (length c.opened + i)) e ∙ loads_in c.opened floor later i x p) in
    let r = read_at opened i y 0 q in omega (arith, h, r)

-- the first try is clean
pub direct_first : (n : ℕ) (opened found totals : List ℕ) (gs : List RememberedRow) (c : ScanLog) → length opened ≡ n
    → ((q : ℕ) → q < n → IsLoaded q c (slice_index opened q))
    → IsAnswered n c (answered (record { vector = opened; totals = totals }) (settling opened found gs (opening opened gs c)))
    (record { vector = opened; totals = totals })
direct_first n opened found totals gs c long told = record {
  recorded = refl;
  quit = refl;
  seen = refl;
  floor = opened;
  later = [];
  opened = ap (λ z. c.opened ++ z) (sym (append-nil (pairs 0 opened)));
  all = long;
  above = above_self opened;
  seen_before = seen_below n c opened long told;
}

-- the first try is clean, and met a number other than the remembered one
pub moved_first : (n : ℕ) (rows : List Version) (opened : List ℕ) (c c' : ScanLog) → length opened ≡ n → HasOther opened rows
    → c'.opened ≡ c.opened ++ pairs 0 opened → HasMoved n rows c c'
moved_first n rows opened c c' long other loads = record {
  first = opened;
  later = [];
  opened = loads ∙ ap (λ z. c.opened ++ z) (sym (append-nil (pairs 0 opened)));
  all = long;
  why = inl other;
}

-- the first try is not clean
pub failed_once : {N C H G : ℕ} (b : Board N C H G) (s s' : Bundle) (gs gs' : List RememberedRow)
    (sums sums' opened found : List ℕ) (old changed : ChangedView) (end : TryEnd) → MayScan b s
    → IsIdle (scan_of (members_of s)) gs → old.items ≡ [] → is_clean end ≡ false
    → HasTried N C H G s s' gs gs' sums sums' opened found old changed end
    → HasFailedOnce b s s' gs gs' sums sums' opened found changed
failed_once {N} {C} {H} {G} b s s' gs gs' sums sums' opened found old changed Quiet own idle none failed tried = absurd
    (true≢false failed)
failed_once {N} {C} {H} {G} b s s' gs gs' sums sums' opened found old changed Clean own idle none failed tried = absurd
    (true≢false failed)
failed_once {N} {C} {H} {G} b s s' gs gs' sums sums' opened found old changed Failed own idle none failed tried = record {
  of_board = own;
  idle = idle;
  tried = (old, tried);
  listed = lists_first (width C H G) sums sums' old changed none tried.listed;
}

some_loads : (l : List (ℕ × ℕ)) (xs : List ℕ) → 0 < length xs → l ++ pairs 0 xs ≢ []
some_loads l [] h = absurd (omega (arith, h))
some_loads [] (x ∷ xs) h = λ e. cc
some_loads (y ∷ l) (x ∷ xs) h = λ e. cc

module _ (n : ℕ) (floor base first last : List ℕ) (tries : List Tried) (tried : AreTries n floor base first last tries)
    (gs0 : List RememberedRow) (c : ScanLog) where
  opened_so : (stood tries gs0 floor base c).opened ≡ c.opened ++ (pairs 0 floor ++ all_opened tried.others)
  opened_so = ap (λ (ts : List Tried). c.opened ++ all_opened ts) tried.all
      ∙ ap (λ (f : List ℕ). c.opened ++ (pairs 0 f ++ all_opened tried.others)) tried.is_floor

  loads_more : (opened : List ℕ) → (stood tries gs0 floor base c).opened ++ pairs 0 opened
      ≡ c.opened ++ (pairs 0 floor ++ (all_opened tried.others ++ pairs 0 opened))
  loads_more opened = ap (λ z. z ++ pairs 0 opened) opened_so
      ∙ (append_assoc c.opened (pairs 0 floor ++ all_opened tried.others) (pairs 0 opened)
      ∙ ap (λ z. c.opened ++ z) (append_assoc (pairs 0 floor) (all_opened tried.others) (pairs 0 opened)))

  -- a later try is clean
  pub direct_later : (opened found totals : List ℕ) (gs : List RememberedRow) → length floor ≡ n → length opened ≡ n
      → ((q : ℕ) → q < n → IsLoaded q (stood tries gs0 floor base c) (slice_index opened q))
      → IsAnswered n c (answered (record { vector = opened; totals = totals })
      (settling opened found gs (opening opened gs (stood tries gs0 floor base c))))
      (record { vector = opened; totals = totals })
  direct_later opened found totals gs wide long told = record {
    recorded = refl;
    quit = refl;
    seen = refl;
    floor = floor;
    later = all_opened tried.others ++ pairs 0 opened;
    opened = loads_more opened;
    all = wide;
    above = floor_below n c (stood tries gs0 floor base c) floor opened (all_opened tried.others) long told opened_so;
    seen_before = seen_below n (stood tries gs0 floor base c) opened long told;
  }

  -- and the scan made more than one try
  pub moved_later : (rows : List Version) (opened : List ℕ) (c' : ScanLog) → 0 < n → length floor ≡ n → length opened ≡ n
      → c'.opened ≡ (stood tries gs0 floor base c).opened ++ pairs 0 opened → HasMoved n rows c c'
  moved_later rows opened c' any wide long loads = record {
    first = floor;
    later = all_opened tried.others ++ pairs 0 opened;
    opened = loads ∙ (ap (λ z. z ++ pairs 0 opened) opened_so
        ∙ (append_assoc c.opened (pairs 0 floor ++ all_opened tried.others) (pairs 0 opened)
        ∙ ap (λ z. c.opened ++ z) (append_assoc (pairs 0 floor) (all_opened tried.others) (pairs 0 opened))));
    all = wide;
    why = inr (some_loads (all_opened tried.others) opened (omega (arith, any, long)));
  }

  -- a worker lends
  pub lent_later : (opened found : List ℕ) (gs : List RememberedRow) (a : Answer) (e : Asked) (es : List Asked) (workers : List ℕ)
      → length floor ≡ n → length a.vector ≡ n → Below c.seen floor → is_above floor a.vector ≡ true
      → IsAnswered n c (answered a (asked_too e (asking opened found gs floor base es workers (stood tries gs0 floor base c)))) a
  lent_later opened found gs a e es workers wide long seen hit = record {
    recorded = refl;
    quit = refl;
    seen = refl;
    floor = floor;
    later = all_opened tried.others ++ pairs 0 opened;
    opened = loads_more opened;
    all = wide;
    above = above_below floor a.vector hit;
    seen_before = λ i x y p q. let lt = at_below a.vector i y q in let f = there floor i 0 (omega (arith, wide, long, lt)) in
        let h = seen i x (get_or floor i 0) p f in let k = above_below floor a.vector hit i (get_or floor i 0) y f q in
        omega (arith, h, k);
  }

  -- all tries have failed
  pub all_failed : length tries ≡ n + 2 → ((q : ℕ) (t : Tried) → get_elem? tries q ≡ some t → Below c.seen t.first)
      → IsGivenUp n c (given_up_if_spent n (stood tries gs0 floor base c)) first last
  all_failed count above = subst (λ (x : ScanLog). IsGivenUp n c x first last)
      (sym (given_last n (stood tries gs0 floor base c) refl count)) (record {
        recorded = refl;
        seen = refl;
        quit = refl;
        head = tried.head;
        others = tried.others;
        final = tried.ends.1;
        tries = tries;
        all = tried.all;
        ends = (tried.ends.0, tried.ends.2);
        count = count;
        opened = refl;
        confirmed = refl;
        before = refl;
        asked = refl;
        above = above;
        each = λ q t at. subst (λ (f : List ℕ). FailedTry n f tried.head.second t) (sym tried.is_floor)
            (subst (λ (b : List ℕ). FailedTry n floor b t) (sym tried.is_base) (tried.each q t at));
        final_first = tried.ends.3;
        final_last = tried.ends.4;
      })

  -- one more try has failed
  pub tries_more : (opened found : List ℕ) (es : List Asked)
      → FailedTry n floor base (record { first = opened; second = found; asks = es })
      → AreTries n floor base opened found (tries ++ record { first = opened; second = found; asks = es } ∷ [])
  tries_more opened found es failed = let t : Tried = record { first = opened; second = found; asks = es } in record {
    head = tried.head;
    others = tried.others ++ t ∷ [];
    all = ap (λ (ts : List Tried). ts ++ t ∷ []) tried.all;
    is_floor = tried.is_floor;
    is_base = tried.is_base;
    each = each_push (FailedTry n floor base) tries t tried.each failed;
    ends = (tries, t, refl, refl, refl);
  }

pub tries_one : (n : ℕ) (opened found : List ℕ) → FailedTry n opened found (record { first = opened; second = found; asks = [] })
    → AreTries n opened found opened found (record { first = opened; second = found; asks = [] } ∷ [])
tries_one n opened found failed = let t : Tried = record { first = opened; second = found; asks = [] } in record {
  head = t;
  others = [];
  all = refl;
  is_floor = refl;
  is_base = refl;
  each = λ q x e. each_push (FailedTry n opened found) [] t (λ p y at. absurd (some-ne-none y (sym at))) failed q x e;
  ends = ([], t, refl, refl, refl);
}

-- what may be asked after a try
pub may_start : (n : ℕ) (opened found : List ℕ) (gs : List RememberedRow) (floor base workers : List ℕ) (d : ScanLog)
    → MayAsk floor workers (given_up_if_spent n (asking opened found gs floor base [] workers d))
may_start n opened found gs floor base [] d = go (d.trying.failed + 1 == n + 2)
  where
    go : (b : Bool) → MayAsk floor []
        (cond b (record (asking opened found gs floor base [] [] d) { quit = d.quit + 1; trying = at_rest })
        (asking opened found gs floor base [] [] d))
    go true = record { due = refl; looks = refl; asks = refl; floor = λ ne. absurd (ne refl) }
    go false = record { due = refl; looks = refl; asks = refl; floor = λ _. refl }
may_start n opened found gs floor base (i ∷ more) d = subst (MayAsk floor (i ∷ more))
    (sym (given_due n (asking opened found gs floor base [] (i ∷ more) d) i more refl))
    (record { due = refl; looks = refl; asks = refl; floor = λ _. refl })

-- the try in progress has tries before it
pub later_not : (tries : List Tried) (k : ℕ) → length tries ≡ k + 1 → (length tries == 0) ≡ false
later_not tries k e = ne_eqb (length tries) 0 (λ h. omega (arith, h, e))

pub first_starts : (n w : ℕ) (opened found : List ℕ) (gs : List RememberedRow) (c : ScanLog) → length gs ≡ n → length opened ≡ n
    → length found ≡ n → c.trying ≡ at_rest
    → failing (settling opened found gs (opening opened gs c)) ≡ stood (record { first = opened; second = found; asks = [] } ∷ [])
    gs opened found c
first_starts n w opened found gs c few long deep none =
    fails_first n w opened found gs gs few long deep c none
    ∙ (λ z. record c {
      opened = c.opened ++ sym (append-nil (pairs 0 opened)) z;
      confirmed = c.confirmed ++ sym (append-nil (pairs 0 found)) z;
      before = c.before ++ sym (append-nil (map (λ _. length (c.opened ++ pairs 0 opened)) found)) z;
      asked = c.asked ++ [];
      remembered = map version_of gs;
      trying = record {
        failed = ap (λ (t : ℕ). t + 1) (ap (λ (u : _). u.failed) none) z;
        floor = opened;
        base = found;
        looks = [];
        due = [];
        asks = [];
      };
    })

-- before its last try a scan goes on
pub at_loop : (n k : ℕ) (tries : List Tried) (gs : List RememberedRow) (floor base : List ℕ) (ms a : List Member)
    → length tries ≡ k + 1 → k < n + 1
    → a ≡ with_scan (given_up_if_spent n (stood tries gs floor base (scan_of ms))) ms
    → a ≡ with_scan (stood tries gs floor base (scan_of ms)) ms
at_loop n k tries gs floor base ms a e lt p = p
    ∙ ap (λ (x : ScanLog). with_scan x ms) (given_later n (stood tries gs floor base (scan_of ms)) (omega (arith, e, lt)))

-- while there are tries left, the next one may be made
pub may_try : {N C H G : ℕ} (b : Board N C H G) (s s' : Bundle) (k : ℕ) (tries : List Tried) (gs : List RememberedRow)
    (floor base opened : List ℕ) → MayScan b s → IsGeometry N C H G → table_of s' ≡ table_of s → length gs ≡ N
    → length opened ≡ N → AreWide (width C H G) gs → length tries ≡ k + 1
    → members_of s' ≡ with_scan (given_up_if_spent N (stood tries gs floor base (scan_of (members_of s)))) (members_of s)
    → k < N + 1 → MayTry b s' gs opened
may_try {N} {C} {H} {G} b s s' k tries gs floor base opened own geo same few long wide count view lt =
    let stands = at_loop N k tries gs floor base (members_of s) (members_of s') count lt view in
    let scan = now_is (stood tries gs floor base (scan_of (members_of s))) (members_of s) (members_of s') own.1 stands in record {
      of_board = (same ∙ own.0, still_some _ (members_of s) (members_of s') own.1 stands);
      geometry = geo;
      lengths = (few, long);
      wide = wide;
      remembered = ap (λ (d : ScanLog). d.remembered) scan;
      rest = (
        ap (λ (d : ScanLog). d.trying.looks) scan,
        ap (λ (d : ScanLog). d.trying.due) scan,
        ap (λ (d : ScanLog). d.trying.asks) scan,
      );
    }

module _ (n w k : ℕ) (opened found : List ℕ) (gs gs0 : List RememberedRow) (few : length gs ≡ n) (long : length opened ≡ n)
    (deep : length found ≡ n) (tries : List Tried) (floor base : List ℕ) (ms a b : List Member) (t : HasMember ms)
    (count : length tries ≡ k + 1) (p : a ≡ with_scan (stood tries gs0 floor base (scan_of ms)) ms) where
  abbrev was : ScanLog
  was = stood tries gs0 floor base (scan_of ms)

  pub loop_fails : b ≡ with_scan (given_up_if_spent n (failing (settling opened found gs (opening opened gs (scan_of a))))) a
      → b ≡ with_scan (given_up_if_spent n
      (asking opened found gs floor base [] (due_from 0 base found) (stood tries gs0 floor base (scan_of ms)))) ms
  loop_fails q = then_is (λ (d : ScanLog). given_up_if_spent n (failing (settling opened found gs
      (opening opened gs d)))) was ms a b t p q
      ∙ ap (λ (x : ScanLog). with_scan (given_up_if_spent n x) ms)
      (fails_later n w opened found gs gs few long deep was (later_not tries k count) refl)

  pub loop_lends : (d : List Member) (answer : Answer) (e : Asked) (es : List Asked) (more : List ℕ)
      → b ≡ with_scan (given_up_if_spent n
      (asking opened found gs floor base [] (due_from 0 base found) (stood tries gs0 floor base (scan_of ms)))) ms
      → map asked_worker es ++ asked_worker e ∷ more ≡ due_from 0 base found
      → d ≡ with_scan (answered answer (asked_too e (refused_all n es (scan_of b)))) b
      → d ≡ with_scan (answered answer
      (asked_too e (asking opened found gs floor base es (asked_worker e ∷ more) (stood tries gs0 floor base (scan_of ms)))))
      ms
  loop_lends d answer e es more q due r =
      then_is (λ (x : ScanLog). answered answer (asked_too e (refused_all n es x)))
      (given_up_if_spent n (asking opened found gs floor base [] (due_from 0 base found) was)) ms b d t q r
      ∙ (ap (λ (ws : List ℕ). with_scan
      (answered answer (asked_too e (refused_all n es (given_up_if_spent n (asking opened found gs floor base [] ws was))))) ms)
      (sym due)
      ∙ ap (λ (x : ScanLog). with_scan (answered answer (asked_too e x)) ms)
      (asked_some n w opened found gs gs few long deep floor base more (asked_worker e) es [] was))

  pub loop_refuses : (d : List Member) (es : List Asked)
      → b ≡ with_scan (given_up_if_spent n
      (asking opened found gs floor base [] (due_from 0 base found) (stood tries gs0 floor base (scan_of ms)))) ms
      → map asked_worker es ≡ due_from 0 base found → d ≡ with_scan (refused_all n es (scan_of b)) b
      → d ≡ with_scan (given_up_if_spent n (stood
      (tries ++ record { first = opened; second = found; asks = es } ∷ []) gs floor base
      (scan_of ms))) ms
  loop_refuses d es q due r =
      then_is (refused_all n es) (given_up_if_spent n (asking opened found gs floor base []
      (due_from 0 base found) was)) ms b d t q r
      ∙ (ap (λ (ws : List ℕ). with_scan (refused_all n es (given_up_if_spent n (asking opened found gs floor base [] ws was))) ms)
      (sym due)
      ∙ (ap (λ (x : ScanLog). with_scan x ms) (asked_none n w opened found gs gs few long deep floor base es [] was)
      ∙ ap (λ (x : ScanLog). with_scan (given_up_if_spent n x) ms)
      (stood_more tries gs0 gs floor base floor base opened found es (scan_of ms))))

pub count_more : (tries : List Tried) (t : Tried) (k : ℕ) → length tries ≡ k + 1 → length (tries ++ t ∷ []) ≡ k + 1 + 1
count_more [] t k e = absurd (omega (arith, e))
count_more (x ∷ []) t zero e = refl
count_more (x ∷ []) t (suc k) e = absurd (omega (arith, e))
count_more (x ∷ y ∷ ts) t zero e = absurd (omega (arith, e))
count_more (x ∷ y ∷ ts) t (suc k) e = let h = count_more (y ∷ ts) t k (omega (arith, e)) in omega (arith, h)
