-- The end of a scan, and the loads that ask a worker for what it lends: what they leave true of the scan.
use Rattle.std.proofs.Common.{◌≡◌, ℕ, ◌+◌, ◌<◌, ◌≤◌, ◌⊎◌, inl, map, ⊎_elim, ◌==◌, ◌&&◌, true, List, [], ◌∷◌, ◌++◌, length, take}
use Rattle.std.proofs.Common.{drop, get_or, Option, Some, None, sym, refl, ap, ◌∙◌, subst, arith, length-drop}
use mathlib.Core.Option.{some, some-injective, some-ne-none}
use lib.ListN.{get_elem?}
use Rattle.std.proofs.lemmas.List.{take_all, get_or-take, get_or-drop, ext_get_or, length-take-le}
use Rattle.std.proofs.lemmas.Bool.{eqb-true, and_parts, cond_both}
use Rattle.ledger_core.specs.declared.op.Op.{Op}
use Rattle.register_rule.specs.declared.view.PublishEntry.{PublishEntry}
use Rattle.register_rule.specs.declared.view.Look.{Look}
use Rattle.register_rule.specs.declared.view.Answer.{Answer}
use Rattle.register_rule.specs.declared.view.Asked.{Asked}
use Rattle.register_rule.specs.declared.view.ScanInProgress.{ScanInProgress}
use Rattle.register_rule.specs.declared.view.ScanLog.{ScanLog}
use Rattle.register_rule.specs.History.{count, IsCut, Below}
use Rattle.register_rule.specs.Sums.{vector_total, last_lent, flag_of}
use Rattle.register_rule.specs.Shown.{Shows}
use Rattle.register_rule.specs.Loads.{AreOrdered}
use Rattle.register_rule.specs.SoundScans.{opened_at, AreLoads, IsStale, IsLook, HasStale, IsOneMoment, IsAsked, IsSound}
use Rattle.register_rule.specs.ScanSteps.{upper, at_rest, answered, given_up_if_spent, begun, is_next, after_ask, rest, lent_in}
use Rattle.register_rule.specs.ScanSteps.{is_lender}
use Rattle.register_rule.specs.ScanSteps.{asked_of, lent_or_passed, lent_or_passed_at, after_end_ask}
use Rattle.register_rule.proofs.Words.{there, read_at, from_replicate, each_push}
use Rattle.register_rule.proofs.Moments.{length_tab}
use Rattle.register_rule.proofs.Upper.{length_upper, upper_from, upper_of}
use Rattle.register_rule.proofs.Ordering.{rest_ordered}
use Rattle.register_rule.proofs.Growth.{below_upper}

-- k words of a list from its word j on
piece_at : (j k : ℕ) (l : List ℕ) (i : ℕ) → i < k → get_or (take k (drop j l)) i 0 ≡ get_or l (j + i) 0
piece_at j k l i lt = get_or-take k (drop j l) i 0 lt ∙ get_or-drop j l i 0

length_piece : (j k : ℕ) (l : List ℕ) → j + k ≤ length l → length (take k (drop j l)) ≡ k
length_piece j k l le = length-take-le k (drop j l) (let e = length-drop j l in omega (arith, e))

flag_low : (o : Option Answer) → flag_of o ≤ 1
flag_low None = omega arith
flag_low (Some a) = omega arith

-- the scan once one more worker was asked, and where that one lent nothing
abbrev pub once_asked : (n x : ℕ) → Look → ScanLog → ScanLog
once_asked n x l c = record c { asked = c.asked ++ asked_of x l ∷ [] }

abbrev pub nothing_lent : (n x : ℕ) → Look → ScanLog → ScanLog
nothing_lent n x l c = record c {
  asked = c.asked ++ asked_of x l ∷ [];
  trying = record c.trying {
    due = rest c.trying.due;
    asks =
        [];
  };
}

module _ (n w : ℕ) (adds : List Op → ℕ → ℕ) (made : ℕ → List PublishEntry) (h : List ℕ) where
  -- nothing changes but the loads that opened a place, the workers that were asked, how many scans were given up, and the
  -- try in progress
  pub with_now : (c : ScanLog) (loads : List (ℕ × ℕ)) (asks : List Asked) (quit' : ℕ) (t : ScanInProgress)
      → AreLoads n w adds made loads
      → AreOrdered loads c.confirmed c.before t.looks
      → ((q : ℕ) (e : Asked) → get_elem? asks q ≡ some e → IsAsked n w adds made e)
      → ((q : ℕ) (l : Look) → get_elem? t.looks q ≡ some l → IsLook n w adds made 0 l × (l.place ≡ q))
      → ((q : ℕ) (l : Look) → get_elem? t.asks q ≡ some l → IsLook n w adds made w l)
      → (length t.looks ≡ n → HasStale n w adds made t.looks ⊎ IsCut n h (map opened_at t.looks)) → IsSound n w adds made h c
      → IsSound n w adds made h (record c { opened = loads; asked = asks; quit = quit'; trying = t })
  with_now c loads asks quit' t opened' ordered' asked' looks' asks' whole' ok = record {
    opened = opened';
    confirmed = ok.confirmed;
    ordered = ordered';
    asked = asked';
    recorded = ok.recorded;
    seen = ok.seen;
    seen_wide = ok.seen_wide;
    remembered = ok.remembered;
    remembered_wide = ok.remembered_wide;
    looks = looks';
    asks = asks';
    whole = whole';
  }

  -- a scan gives up
  pub scan_gives : (c : ScanLog) → 0 < n → IsSound n w adds made h c → IsSound n w adds made h (given_up_if_spent n c)
  scan_gives c some_n ok = cond_both (length c.trying.due == 0 && c.trying.failed == n + 2)
      (record c { quit = c.quit + 1; trying = at_rest }) c (IsSound n w adds made h)
      (λ _. with_now c c.opened c.asked (c.quit + 1) at_rest ok.opened
      (rest_ordered c.opened c.confirmed c.before c.trying.looks ok.ordered) ok.asked (λ q l e. absurd (some-ne-none l (sym e)))
      (λ q l e. absurd (some-ne-none l (sym e))) (λ none. absurd (let z : 0 ≡ n = none in omega arith)) ok)
      (λ _. ok)

  -- a scan ends with an answer
  pub scan_answered : (c : ScanLog) (a : Answer) → 0 < n → length a.vector ≡ n → IsOneMoment n w adds made h a
      → IsSound n w adds made h c → IsSound n w adds made h (answered a c)
  scan_answered c a some_n wide answer ok = let same : length c.seen ≡ length a.vector = ok.seen_wide ∙ sym wide in record {
    opened = ok.opened;
    confirmed = ok.confirmed;
    ordered = rest_ordered c.opened c.confirmed c.before c.trying.looks ok.ordered;
    asked = ok.asked;
    recorded = each_push (λ (y : Answer). IsOneMoment n w adds made h y × Below y.vector (upper c.seen a.vector)) c.recorded a
        (λ q x t. ((ok.recorded q x t).0, below_upper x.vector c.seen a.vector same (ok.recorded q x t).1))
        (answer, new same);
    seen = λ i s e. ⊎_elim (ok.seen i s) (answer.low i s) (upper_from c.seen a.vector i s e);
    seen_wide = length_upper c.seen a.vector (omega (arith, same)) ∙ ok.seen_wide;
    remembered = ok.remembered;
    remembered_wide = ok.remembered_wide;
    looks = λ q l e. absurd (some-ne-none l (sym e));
    asks = λ q l e. absurd (some-ne-none l (sym e));
    whole = λ none. absurd (let z : 0 ≡ n = none in omega arith);
  }
    where
      new : length c.seen ≡ length a.vector → Below a.vector (upper c.seen a.vector)
      new same i x z ex ez = let t = upper_of c.seen a.vector i z same ez in
          let e : t.1 ≡ x = some-injective t.1 x (sym t.3 ∙ ex) in let le = t.4 in omega (arith, e)

  -- the opening load of a worker that is asked
  pub ask_right : (c : ScanLog) (i x : ℕ) → i < n → x ≡ length (made i) → IsSound n w adds made h c
      → IsSound n w adds made h (after_ask i x c)
  ask_right c i x inside is ok = cond_both (is_next i c.trying.due) (record c.trying { asks = begun i x [] ∷ [] }) c.trying
      (λ (t : ScanInProgress). IsSound n w adds made h (record c { trying = t }))
      (λ _. with_now c c.opened c.asked c.quit
      (record c.trying { asks = begun i x [] ∷ [] }) ok.opened ok.ordered ok.asked ok.looks
      (λ q l e. subst (IsLook n w adds made w) (from_replicate 1 _ q l e) record {
        inside = inside;
        old = omega (arith, is);
        risen = inl refl;
        right = λ k y e'. absurd (some-ne-none y (sym e'));
      })
      ok.whole ok)
      (λ _. ok)

  -- what a worker was found to lend
  asked_right : (i x : ℕ) (l : Look) → l.place ≡ i → x ≡ length (made i) → IsLook n w adds made w l
      → IsAsked n w adds made (asked_of x l)
  asked_right i x l at is ok = let end : x ≡ length (made l.place) = is ∙ ap (λ (z : ℕ). length (made z)) (sym at) in record {
    inside = ok.inside;
    risen = let o = ok.old in omega (arith, end);
    old = omega (arith, end);
    shown = λ same k y e. ⊎_elim
        (λ (t : Shows n w adds (take l.number (made l.place)) (w + k) y). t)
        (λ (t : IsStale n w adds made l). let t' = t.1 in absurd (omega (arith, end, same)))
        (ok.right k y e);
  }

  -- what a worker whose number stood still has shown is what it lends
  lent_right : (i x : ℕ) (floor : List ℕ) (l : Look) → l.place ≡ i → x ≡ length (made i)
      → ((a : Answer) → last_lent (made i) ≡ Some a → IsOneMoment n w adds made h a) → IsLook n w adds made w l
      → is_lender n w x floor l ≡ true
      → IsOneMoment n w adds made h (lent_in n w l.words) × (length (lent_in n w l.words).vector ≡ n)
  lent_right i x floor l at is lent ok hit =
      let t3 = and_parts _ _ hit in let t2 = and_parts _ _ t3.0 in let t1 = and_parts _ _ t2.0 in
      let this : l.number ≡ x = eqb-true _ _ t1.0 in let len : length l.words ≡ 1 + n + w = eqb-true _ _ t1.1 in
      let one : get_or l.words 0 0 ≡ 1 = eqb-true _ _ t2.1 in
      let still : l.number ≡ length (made l.place) = this ∙ (is ∙ ap (λ (z : ℕ). length (made z)) (sym at)) in
      let all : take l.number (made l.place) ≡ made i = take_all l.number (made l.place) (omega (arith, still)) ∙ ap made at in
      let shows : (p : ℕ) → p < length l.words → Shows n w adds (made i) (w + p) (get_or l.words p 0) =
      λ p lt. subst (λ (z : List PublishEntry). Shows n w adds z (w + p) (get_or l.words p 0)) all
      (⊎_elim (λ t. t) (λ (t : IsStale n w adds made l). let t' = t.1 in absurd (omega arith))
      (ok.right p (get_or l.words p 0) (there l.words p 0 lt))) in
      go shows len one (last_lent (made i)) refl
    where
      go : ((p : ℕ) → p < length l.words → Shows n w adds (made i) (w + p) (get_or l.words p 0)) → length l.words ≡ 1 + n + w
          → get_or l.words 0 0 ≡ 1 → (o : Option Answer) → last_lent (made i) ≡ o
          → IsOneMoment n w adds made h (lent_in n w l.words) × (length (lent_in n w l.words).vector ≡ n)
      go shows len one None e = let f : get_or l.words 0 0 ≡ flag_of (last_lent (made i)) =
          (shows 0 (omega (arith, len))).flag (omega arith) in let f' : flag_of (last_lent (made i)) ≡ 0 = ap flag_of e in
          absurd (omega (arith, f, f', one))
      go shows len one (Some a) e =
          let ok' = lent a e in
          let vector : List ℕ = take n (drop 1 l.words) in
          let wide : length (take n (drop 1 l.words)) ≡ n = length_piece 1 n l.words (omega (arith, len)) in
          let wide' : length (take w (drop (1 + n) l.words)) ≡ w = length_piece (1 + n) w l.words (omega (arith, len)) in
          let long : length a.vector ≡ n = ap length ok'.moment.2 ∙ length_tab 0 n (λ z. count z (take ok'.moment.0 h)) in
          let same : take n (drop 1 l.words) ≡ a.vector = ext_get_or 0 (take n (drop 1 l.words)) a.vector (wide ∙ sym long)
          (λ j lt.
          let lt' : j < n = omega (arith, wide) in
          piece_at 1 n l.words j lt'
          ∙ sym (read_at a.vector j _ 0 ((shows (1 + j) (omega (arith, len))).vector a j e lt' (omega arith)))) in (
            record {
              low = λ q s found. ok'.low q s (ap (λ (y : List ℕ). get_elem? y q) (sym same) ∙ found);
              moment = subst (IsCut n h) (sym same) ok'.moment;
              totals = λ k lt. there (take w (drop (1 + n) l.words)) k 0 (omega (arith, wide'))
                  ∙ (ap some (piece_at (1 + n) w l.words k lt)
                  ∙ (sym ((shows (1 + n + k) (omega (arith, len))).totals a k e lt (omega arith))
                  ∙ (ok'.totals k lt ∙ ap (λ (y : List ℕ). some (vector_total adds made 0 y k)) (sym same))));
            },
            wide,
          )

  -- the confirming load of the worker that is asked
  pub end_ask_right : (c : ScanLog) (i x : ℕ) → 0 < n → x ≡ length (made i)
      → ((a : Answer) → last_lent (made i) ≡ Some a → IsOneMoment n w adds made h a) → IsSound n w adds made h c
      → IsSound n w adds made h (after_end_ask n w i x c)
  end_ask_right c i x some_n is lent ok = by_asks c.trying.asks ok.asks
    where
      by_asks : (ls : List Look) → ((q : ℕ) (l : Look) → get_elem? ls q ≡ some l → IsLook n w adds made w l)
          → IsSound n w adds made h (lent_or_passed_at n w i x ls c)
      by_asks [] each = ok
      by_asks (l ∷ ls) each = cond_both (l.place == i) (lent_or_passed n w x l c) c (IsSound n w adds made h)
          (λ same. let at : l.place ≡ i = eqb-true _ _ same in
          let asked' = each_push (IsAsked n w adds made) c.asked (asked_of x l) ok.asked
          (asked_right i x l at is (each 0 l refl)) in
          cond_both (is_lender n w x c.trying.floor l) (answered (lent_in n w l.words) (once_asked n x l c))
          (given_up_if_spent n (nothing_lent n x l c)) (IsSound n w adds made h)
          (λ hit. let t = lent_right i x c.trying.floor l at is lent (each 0 l refl) hit in
          scan_answered (once_asked n x l c) (lent_in n w l.words) some_n t.1 t.0
          (with_now c c.opened (c.asked ++ asked_of x l ∷ []) c.quit c.trying ok.opened ok.ordered asked' ok.looks ok.asks
          ok.whole ok))
          (λ _. scan_gives (nothing_lent n x l c) some_n
          (with_now c c.opened (c.asked ++ asked_of x l ∷ []) c.quit (record c.trying { due = rest c.trying.due; asks = [] })
          ok.opened ok.ordered asked' ok.looks (λ q l e. absurd (some-ne-none l (sym e))) ok.whole ok)))
          (λ _. ok)
